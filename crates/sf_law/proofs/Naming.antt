-- Lists of names, and what patterns bind.
use Rattle.std.proofs.Common.{◌≡◌, Bool, true, false, cond, ◌||◌, ◌&&◌, IsTrue, suc, ◌-◌, ◌≤◌, List, [], ◌∷◌, ◌++◌, length, take, drop, get_or, arith, refl, sym, ◌∙◌, ap, subst, ◌⊎◌, inl, inr}
use Rattle.std.specs.Prelude.{bytes_eq, Result, Ok, Err, OnOk, Option, Some, None, is_some}
use Rattle.std.proofs.lemmas.Slice.Eq.{bytes_eq-Decides}
use Rattle.std.proofs.Math.Seq.{take-length}
use Rattle.std.proofs.lemmas.List.Folds.{list_any-append}
use Rattle.sf_value.specs.Values.{Name}
use Rattle.sf_expr.specs.declared.exprs.Exprs.{Exprs}
use Rattle.sf_expr.specs.declared.exprs.NameId.{NameId}
use Rattle.sf_expr.specs.Arena.{name_at}
use Rattle.sf_expr.specs.Expressions.{Pattern, unnamed, named, both, Expression, variable, literal, paired, applied, operation, conditional, mapped, folded, called, Function, function}
use Rattle.sf_code.specs.Compiling.{path_of_name, inner_path, place_of_name, place_or, is_closed}
use Rattle.sf_code.specs.declared.place.Half.{Half}
use Rattle.sf_code.specs.Places.{Place}
use Rattle.sf_code.specs.Worth.{is_closed_within}
use Rattle.sf_coincidence.specs.Mentions.{BindsOthers, ExpressionMentions, FunctionMentions}
use Rattle.sf_coincidence.proofs.Worth.{differs}
use Rattle.sf_law.specs.Mentioned.{has_name, binds_name}

either : (a b : Bool) → IsTrue (a || b) → IsTrue a ⊎ IsTrue b
either true b h = inl refl
either false b h = inr h

pub left_or : (a b : Bool) → IsTrue a → IsTrue (a || b)
left_or true b h = refl
left_or false b h = absurd cc

pub right_or : (a b : Bool) → IsTrue b → IsTrue (a || b)
right_or true b h = refl
right_or false b h = h

pub neither : (a b : Bool) → (a || b) ≡ false → (a ≡ false) × (b ≡ false)
neither true b h = absurd cc
neither false b h = (refl, h)

both_true : (a b : Bool) → (a && b) ≡ true → (a ≡ true) × (b ≡ true)
both_true true b h = (refl, h)
both_true false b h = absurd cc

-- a name among others is the first or among the rest
pub first_or : {A : Name → Type 0} (e : Exprs) (k : NameId) (rest : List NameId) → A (name_at e k) → ((x : Name) → IsTrue (has_name e rest x) → A x) → (x : Name) → IsTrue (has_name e (k ∷ rest) x) → A x
first_or {A} e k rest here there x h = by (bytes_eq x (name_at e k)) refl h
  where
    by : (b : Bool) → bytes_eq x (name_at e k) ≡ b → IsTrue (b || has_name e rest x) → A x
    by true same j = subst A (sym ((bytes_eq-Decides x (name_at e k)).0 same)) here
    by false same j = there x j

-- what a pattern doesn't bind
pub others : (p : Pattern) (x : Name) → binds_name p x ≡ false → BindsOthers p x
others unnamed x h = tt
others (named y) x h = differs x y h
others (both p q) x h = let k = neither (binds_name p x) (binds_name q x) h in (others p x k.0, others q x k.1)

pub not_bound : (p : Pattern) (x : Name) → BindsOthers p x → binds_name p x ≡ false
not_bound unnamed x h = refl
not_bound (named y) x h = by (bytes_eq x y) refl
  where
    by : (b : Bool) → bytes_eq x y ≡ b → b ≡ false
    by true same = absurd (h (sym ((bytes_eq-Decides x y).0 same)))
    by false same = refl
not_bound (both p q) x h = subst (λ b. (b || binds_name q x) ≡ false) (sym (not_bound p x h.0)) (not_bound q x h.1)

abbrev none : List Half
none = []

-- the path to a name is one to what the pattern binds
pub path_bound : (p : Pattern) (x : Name) → is_some (path_of_name x p) ≡ true → IsTrue (binds_name p x)
path_bound unnamed x h = absurd cc
path_bound (named y) x h = by (bytes_eq x y) h
  where
    by : (b : Bool) → is_some (cond b (Some none) None) ≡ true → IsTrue b
    by true k = refl
    by false k = absurd cc
path_bound (both p q) x h = by (path_of_name x q) (path_of_name x p) (path_bound q x) (path_bound p x) h
  where
    by : (a b : Option (List Half)) → (is_some a ≡ true → IsTrue (binds_name q x)) → (is_some b ≡ true → IsTrue (binds_name p x)) → is_some (inner_path a b) ≡ true → IsTrue (binds_name p x || binds_name q x)
    by (Some hs) b A B k = right_or (binds_name p x) (binds_name q x) (A refl)
    by None (Some hs) A B k = left_or (binds_name p x) (binds_name q x) (B refl)
    by None None A B k = absurd cc

-- a place in a pattern alone is one of what it binds
pub alone_bound : (p : Pattern) (x : Name) → is_some (place_of_name x (p ∷ [])) ≡ true → IsTrue (binds_name p x)
alone_bound p x h = path_bound p x (by (path_of_name x p) h)
  where
    by : (o : Option (List Half)) → is_some (place_or o None) ≡ true → is_some o ≡ true
    by None k = absurd cc
    by (Some hs) k = refl

no_path : (p : Pattern) (x : Name) → BindsOthers p x → path_of_name x p ≡ None
no_path p x h = by (path_of_name x p) refl
  where
    by : (o : Option (List Half)) → path_of_name x p ≡ o → o ≡ None
    by None same = refl
    by (Some hs) same = absurd (let bound : IsTrue (binds_name p x) = path_bound p x (ap is_some same) in let free : binds_name p x ≡ false = not_bound p x h in cc)

-- a name has a place behind a pattern that binds others
behind : (p : Pattern) (ps : List Pattern) (x : Name) → BindsOthers p x → is_some (place_of_name x (p ∷ ps)) ≡ true → is_some (place_of_name x ps) ≡ true
behind p ps x h k = by (place_of_name x ps) (subst (λ o. is_some (place_or o (place_of_name x ps)) ≡ true) (no_path p x h) k)
  where
    by : (o : Option Place) → is_some (place_or None o) ≡ true → is_some o ≡ true
    by None k = absurd cc
    by (Some q) k = refl

-- each name that a closed expression mentions has a place
pub closed_mentions : (ps : List Pattern) (e : Expression) (x : Name) → is_closed ps e ≡ true → ExpressionMentions e x → is_some (place_of_name x ps) ≡ true
closed_mentions ps (variable y) x h m = subst (λ z. is_some (place_of_name z ps) ≡ true) m h
closed_mentions ps (literal l) x h m = absurd m
closed_mentions ps (paired i j) x h (inl m) = closed_mentions ps i x (both_true (is_closed ps i) (is_closed ps j) h).0 m
closed_mentions ps (paired i j) x h (inr m) = closed_mentions ps j x (both_true (is_closed ps i) (is_closed ps j) h).1 m
closed_mentions ps (applied o i) x h m = closed_mentions ps i x h m
closed_mentions ps (operation i o j) x h (inl m) = closed_mentions ps i x (both_true (is_closed ps i) (is_closed ps j) h).0 m
closed_mentions ps (operation i o j) x h (inr m) = closed_mentions ps j x (both_true (is_closed ps i) (is_closed ps j) h).1 m
closed_mentions ps (conditional i j k) x h (inl m) = closed_mentions ps i x (both_true (is_closed ps i) (is_closed ps j && is_closed ps k) h).0 m
closed_mentions ps (conditional i j k) x h (inr (inl m)) = closed_mentions ps j x (both_true (is_closed ps j) (is_closed ps k) (both_true (is_closed ps i) (is_closed ps j && is_closed ps k) h).1).0 m
closed_mentions ps (conditional i j k) x h (inr (inr m)) = closed_mentions ps k x (both_true (is_closed ps j) (is_closed ps k) (both_true (is_closed ps i) (is_closed ps j && is_closed ps k) h).1).1 m
closed_mentions ps (mapped i m p j) x h (inl n) = closed_mentions ps i x (both_true (is_closed ps i) (is_closed (p ∷ ps) j) h).0 n
closed_mentions ps (mapped i m p j) x h (inr n) = behind p ps x n.1 (closed_mentions (p ∷ ps) j x (both_true (is_closed ps i) (is_closed (p ∷ ps) j) h).1 n.0)
closed_mentions ps (folded i o j p k) x h (inl m) = closed_mentions ps i x (both_true (is_closed ps i) (is_closed ps j && is_closed (p ∷ ps) k) h).0 m
closed_mentions ps (folded i o j p k) x h (inr (inl m)) = closed_mentions ps j x (both_true (is_closed ps j) (is_closed (p ∷ ps) k) (both_true (is_closed ps i) (is_closed ps j && is_closed (p ∷ ps) k) h).1).0 m
closed_mentions ps (folded i o j p k) x h (inr (inr m)) = behind p ps x m.1 (closed_mentions (p ∷ ps) k x (both_true (is_closed ps j) (is_closed (p ∷ ps) k) (both_true (is_closed ps i) (is_closed ps j && is_closed (p ∷ ps) k) h).1).1 m.0)
closed_mentions ps (called g i) x h m = closed_mentions ps i x h m

pub function_mentions : (ps : List Pattern) (g : Function) (x : Name) → is_closed_within ps g ≡ true → FunctionMentions g x → is_some (place_of_name x ps) ≡ true
function_mentions ps (function p e) x h m = behind p ps x m.1 (closed_mentions (p ∷ ps) e x h m.0)

-- a name that is put behind others is one of them
pub pushed_there : (e : Exprs) (names : List NameId) (k : NameId) → IsTrue (has_name e (names ++ k ∷ []) (name_at e k))
pushed_there e names k =
    let x = name_at e k in
    subst IsTrue (sym (list_any-append (λ (j : NameId). bytes_eq x (name_at e j)) names (k ∷ [])))
    (right_or (has_name e names x) (has_name e (k ∷ []) x) (left_or (bytes_eq x x) false ((bytes_eq-Decides x x).1 refl)))

-- a list by its first item and the rest
pub by_first : {X : Type 0} (xs : List X) (d : X) → 1 ≤ length xs → xs ≡ get_or xs 0 d ∷ take (length xs - 1) (drop 1 xs)
by_first [] d h = absurd (omega (arith, h))
by_first (y ∷ ys) d h = ap (λ zs. y ∷ zs) (sym (ap (λ n. take n ys) same ∙ take-length ys))
  where
    same : suc (length ys) - 1 ≡ length ys
    same = omega arith

-- what follows from two things that hold on success
pub ok_both : {T E A B C : Type 0} (r : Result T E) → (A → B → C) → OnOk r A → OnOk r B → OnOk r C
ok_both (Ok v) f a b = f a b
ok_both (Err e) f a b = tt
