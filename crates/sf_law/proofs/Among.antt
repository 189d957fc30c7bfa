-- What templates and parameters of a plan have among expressions that become more.
use Rattle.std.proofs.Common.{◌≡◌, ℕ, ◌+◌, ◌<◌, length, take, get_or, List, [], ◌∷◌, ◌++◌, All, sym, ◌∙◌, ap, subst}
use Rattle.std.specs.List.{AllZip}
use Rattle.std.proofs.lemmas.List.{take_more}
use Rattle.std.proofs.lemmas.List.Elements.{All-nil, All-cons}
use Rattle.sf_expr.specs.declared.exprs.Exprs.{Exprs}
use Rattle.sf_expr.specs.Expressions.{named}
use Rattle.sf_expr.specs.Patterns.{pattern_of}
use Rattle.sf_expr.specs.Arena.{Extends}
use Rattle.sf_expr.proofs.Entered.{unchanged_keeps}
use Rattle.sf_term.specs.Parameters.{PlacedParameter}
use Rattle.sf_term.specs.Headers.{Header}
use Rattle.sf_term.proofs.Extended.{same_expressions}
use Rattle.sf_law.specs.Headers.{ParameterHeader, PlanHeader}
use Rattle.sf_law.specs.Entries.{BindsName, BindsNames}
use Rattle.sf_law.specs.Copies.{CopiesParameter, CopiesTemplate}

-- related pairs, of which each is also related otherwise
module _ {A B : Type 0} (R : A → B → Type 0) where
  zip_push : (xs : List A) (ys : List B) (x : A) (y : B) → AllZip R xs ys → R x y → AllZip R (xs ++ x ∷ []) (ys ++ y ∷ [])
  zip_push [] [] x y h r = (r, tt)
  zip_push [] (b ∷ ys) x y h r = absurd h
  zip_push (a ∷ xs) [] x y h r = absurd h
  zip_push (a ∷ xs) (b ∷ ys) x y h r = (h.0, zip_push xs ys x y h.1 r)

  pub zip_next : (xs : List A) (ys : List B) (i : ℕ) (d : A) (y : B) → i < length xs → AllZip R (take i xs) ys → R (get_or xs i d) y → AllZip R (take (i + 1) xs) (ys ++ y ∷ [])
  zip_next xs ys i d y l h r = subst (λ zs. AllZip R zs (ys ++ y ∷ [])) (sym (take_more xs i d l)) (zip_push (take i xs) ys (get_or xs i d) y h r)

  pub zip_more : (xs : List A) (ys : List B) (i : ℕ) (x : A) (y : B) → i < length xs → x ≡ get_or xs i x → AllZip R (take i xs) ys → R x y → AllZip R (take (i + 1) xs) (ys ++ y ∷ [])
  zip_more xs ys i x y l at h r = zip_next xs ys i x y l h (subst (λ z. R z y) at r)

  zip_weaker : (S : A → B → Type 0) → ((x : A) (y : B) → R x y → S x y) → (xs : List A) (ys : List B) → AllZip R xs ys → AllZip S xs ys
  zip_weaker S f [] [] h = tt
  zip_weaker S f [] (y ∷ ys) h = absurd h
  zip_weaker S f (x ∷ xs) [] h = absurd h
  zip_weaker S f (x ∷ xs) (y ∷ ys) h = (f x y h.0, zip_weaker S f xs ys h.1)

  zip_right : (P : B → Type 0) → ((x : A) (y : B) → R x y → P y) → (xs : List A) (ys : List B) → AllZip R xs ys → All P ys
  zip_right P f [] [] h = All-nil P
  zip_right P f [] (y ∷ ys) h = absurd h
  zip_right P f (x ∷ xs) [] h = absurd h
  zip_right P f (x ∷ xs) (y ∷ ys) h = All-cons P y ys (f x y h.0) (zip_right P f xs ys h.1)

-- expressions keep what they have
pub keeps_same : (x : Exprs) → Extends x x
keeps_same x = unchanged_keeps x x (same_expressions x)

parameter_kept : (x y : Exprs) → Extends x y → (q : PlacedParameter) (r : ParameterHeader) → CopiesParameter x q r → CopiesParameter y q r
parameter_kept x y k q r z = record {
  name_held = k.holds_names r.name z.name_held;
  pattern_held = k.holds_patterns r.pattern z.pattern_held;
  named = k.names r.name z.name_held ∙ z.named;
  bound = k.placed r.pattern z.pattern_held ∙ z.bound;
  kind = z.kind;
}

pub parameters_kept : (x y : Exprs) → Extends x y → (qs : List PlacedParameter) (rs : List ParameterHeader) → AllZip (CopiesParameter x) qs rs → AllZip (CopiesParameter y) qs rs
parameters_kept x y k qs rs z = zip_weaker (CopiesParameter x) (CopiesParameter y) (parameter_kept x y k) qs rs z

template_kept : (x y : Exprs) → Extends x y → (h : Header) (m : PlanHeader) → CopiesTemplate x h m → CopiesTemplate y h m
template_kept x y k h m z = record {
  name = z.name;
  parameters = parameters_kept x y k h.parameters m.parameters z.parameters;
  input = z.input;
  output = z.output;
  body = z.body;
}

pub templates_kept : (x y : Exprs) → Extends x y → (hs : List Header) (ms : List PlanHeader) → AllZip (CopiesTemplate x) hs ms → AllZip (CopiesTemplate y) hs ms
templates_kept x y k hs ms z = zip_weaker (CopiesTemplate x) (CopiesTemplate y) (template_kept x y k) hs ms z

parameter_bound : (x : Exprs) (q : PlacedParameter) (r : ParameterHeader) → CopiesParameter x q r → BindsName x r
parameter_bound x q r z = ap pattern_of z.bound ∙ ap named (sym z.named)

template_bound : (x : Exprs) (h : Header) (m : PlanHeader) → CopiesTemplate x h m → BindsNames x m
template_bound x h m z = zip_right (CopiesParameter x) (BindsName x) (parameter_bound x) h.parameters m.parameters z.parameters

-- the patterns of parameters bind their names
pub templates_bound : (x : Exprs) (hs : List Header) (ms : List PlanHeader) → AllZip (CopiesTemplate x) hs ms → All (BindsNames x) ms
templates_bound x hs ms z = zip_right (CopiesTemplate x) (BindsNames x) (template_bound x) hs ms z
