-- Code is worth what its expression is.
use Rattle.std.proofs.Common.{◌≡◌, Bool, true, false, cond, List, [], ◌∷◌, refl, ap, sym, ◌∙◌}
use Rattle.std.specs.Prelude.{Option, Some, None, bytes_eq, is_some}
use Rattle.std.proofs.lemmas.Bool.{and_parts, false≢true}
use mathlib.Core.Path.{ap₂, fun_ext}
use Rattle.sf_value.specs.Values.{Name, Data, pair, first_of, second_of}
use Rattle.sf_func.specs.Registries.{AnswersByName}
use Rattle.sf_operator.specs.Outcomes.{Evaluated, answer, ◌>>=◌, nonsense, known}
use Rattle.sf_operator.specs.Operations.{truth_held, unary_value, decided, operated}
use Rattle.sf_operator.specs.FunctionForms.{mapped_value, folded_value}
use Rattle.sf_expr.specs.Expressions.{Pattern, unnamed, named, both, Expression, variable, literal, paired, applied, operation, conditional, mapped, folded, called}
use Rattle.sf_expr.specs.Evaluation.{Scope, scope_functions, value_of, bound_in, unless_decided, granted, eval}
use Rattle.sf_code.specs.declared.place.Half.{Half}
use Rattle.sf_code.specs.declared.place.Half.TheVariants.{First, Second}
use Rattle.sf_code.specs.Codes as trees
use Rattle.sf_code.specs.Codes.{Code}
use Rattle.sf_code.specs.Places.{Place, at_frame, part_at, value_in_frames}
use Rattle.sf_code.specs.Running.{run}
use Rattle.sf_code.specs.Compiling.{inner_path, path_of_name, place_or, place_of_name, code_of_name, compiled, is_closed, frames_scope}

-- the part of a value that halves lead to, or else another value
abbrev pub part_or : Option (List Half) → Data → Data → Data
part_or (Some hs) d else = part_at hs d
part_or None d else = else

pub part_inner : (o q : Option (List Half)) (d else : Data) → part_or o (second_of d) (part_or q (first_of d) else) ≡ part_or (inner_path o q) d else
part_inner (Some hs) q d else = refl
part_inner None (Some hs) d else = refl
part_inner None None d else = refl

-- a name in a pattern has the part of the value that its path leads to
pub value_bound : (x : Name) (p : Pattern) (d : Data) (s : Scope) → value_of x (bound_in p d s) ≡ part_or (path_of_name x p) d (value_of x s)
value_bound x unnamed d s = refl
value_bound x (named y) d s = by_test (bytes_eq x y)
  where
    by_test : (b : Bool) → cond b d (value_of x s) ≡ part_or (cond b (Some []) None) d (value_of x s)
    by_test true = refl
    by_test false = refl
value_bound x (both p q) d s =
    value_bound x q (second_of d) (bound_in p (first_of d) s)
    ∙ ap (λ (e : Data). part_or (path_of_name x q) (second_of d) e) (value_bound x p (first_of d) s)
    ∙ part_inner (path_of_name x q) (path_of_name x p) d (value_of x s)

-- the value at a place; without one, another value
abbrev value_or : Option Place → List Data → Data → Data
value_or (Some p) vs else = value_in_frames p vs
value_or None vs else = else

no_half : (hs : List Half) → part_at hs nonsense ≡ nonsense
no_half [] = refl
no_half (First ∷ hs) = no_half hs
no_half (Second ∷ hs) = no_half hs

value_outside : (o : Option (List Half)) (q : Option Place) (else : Data) → part_or o nonsense (value_or q [] else) ≡ value_or (place_or o q) [] else
value_outside (Some hs) q else = no_half hs
value_outside None None else = refl
value_outside None (Some (at_frame n hs)) else = refl

value_inside : (o : Option (List Half)) (q : Option Place) (v : Data) (vs : List Data) (else : Data) → part_or o v (value_or q vs else) ≡ value_or (place_or o q) (v ∷ vs) else
value_inside (Some hs) q v vs else = refl
value_inside None None v vs else = refl
value_inside None (Some (at_frame n hs)) v vs else = refl

name_worth : (o : Option Place) (vs : List Data) (f : AnswersByName) (else : Data) → run (code_of_name else o) vs f ≡ answer (value_or o vs else)
name_worth (Some p) vs f else = refl
name_worth None vs f else = refl

pub functions_bound : (p : Pattern) (d : Data) (s : Scope) → scope_functions (bound_in p d s) ≡ scope_functions s
functions_bound unnamed d s = refl
functions_bound (named x) d s = refl
functions_bound (both p q) d s = functions_bound q (second_of d) (bound_in p (first_of d) s) ∙ functions_bound p (first_of d) s

module _ (s : Scope) where
  -- a name has the value at its place
  value_placed : (x : Name) (ps : List Pattern) (vs : List Data) → value_of x (frames_scope ps vs s) ≡ value_or (place_of_name x ps) vs (value_of x s)
  value_placed x [] vs = refl
  value_placed x (p ∷ ps) [] =
      value_bound x p nonsense (frames_scope ps [] s)
      ∙ ap (λ (e : Data). part_or (path_of_name x p) nonsense e) (value_placed x ps [])
      ∙ value_outside (path_of_name x p) (place_of_name x ps) (value_of x s)
  value_placed x (p ∷ ps) (v ∷ vs) =
      value_bound x p v (frames_scope ps vs s)
      ∙ ap (λ (e : Data). part_or (path_of_name x p) v e) (value_placed x ps vs)
      ∙ value_inside (path_of_name x p) (place_of_name x ps) v vs (value_of x s)

  pub functions_under : (ps : List Pattern) (vs : List Data) → scope_functions (frames_scope ps vs s) ≡ scope_functions s
  functions_under [] vs = refl
  functions_under (p ∷ ps) [] = functions_bound p nonsense (frames_scope ps [] s) ∙ functions_under ps []
  functions_under (p ∷ ps) (v ∷ vs) = functions_bound p v (frames_scope ps vs s) ∙ functions_under ps vs

  -- the code of an expression
  abbrev code : List Pattern → Expression → Code
  code ps e = compiled (λ x. value_of x s) ps e

  -- the code of an expression is worth what the expression is
  pub compiled_worth : (e : Expression) (ps : List Pattern) (vs : List Data) → run (code ps e) vs (scope_functions s) ≡ eval e (frames_scope ps vs s)
  compiled_worth (variable x) ps vs = name_worth (place_of_name x ps) vs (scope_functions s) (value_of x s) ∙ ap answer (sym (value_placed x ps vs))
  compiled_worth (literal l) ps vs = refl
  compiled_worth (paired i j) ps vs =
      ap₂ (λ (o q : Evaluated Data). o >>= λ a. q >>= λ b. answer (pair a b)) (compiled_worth i ps vs) (compiled_worth j ps vs)
  compiled_worth (applied o i) ps vs = ap (λ (q : Evaluated Data). q >>= unary_value o) (compiled_worth i ps vs)
  compiled_worth (operation i op j) ps vs =
      ap₂ (λ (o q : Evaluated Data). o >>= λ a. unless_decided (decided op a) (q >>= operated op a)) (compiled_worth i ps vs) (compiled_worth j ps vs)
  compiled_worth (conditional i j k) ps vs =
      ap₂ (λ (o : Evaluated Data) (b : Bool → Evaluated Data). o >>= λ c. known (truth_held c) b) (compiled_worth i ps vs)
      (fun_ext (λ (b : Bool). ap₂ (λ (o q : Evaluated Data). cond b o q) (compiled_worth j ps vs) (compiled_worth k ps vs)))
  compiled_worth (mapped i m p j) ps vs =
      ap₂ (λ (o : Evaluated Data) (g : Data → Evaluated Data). o >>= λ a. mapped_value m a g) (compiled_worth i ps vs)
      (fun_ext (λ (x : Data). compiled_worth j (p ∷ ps) (x ∷ vs)))
  compiled_worth (folded i o j p k) ps vs =
      ap₂ (λ (q : Evaluated Data) (g : Evaluated Data × (Data → Evaluated Data)). q >>= λ a. folded_value o a g.0 g.1) (compiled_worth i ps vs)
      (ap₂ (λ (r : Evaluated Data) (g : Data → Evaluated Data). (r, g)) (compiled_worth j ps vs) (fun_ext (λ (x : Data). compiled_worth k (p ∷ ps) (x ∷ vs))))
  compiled_worth (called g i) ps vs =
      ap₂ (λ (o : Evaluated Data) (h : AnswersByName). o >>= λ a. granted (h g a)) (compiled_worth i ps vs) (sym (functions_under ps vs))

same_name : (o : Option Place) (d e : Data) → is_some o ≡ true → code_of_name d o ≡ code_of_name e o
same_name (Some p) d e closed = refl
same_name None d e closed = absurd (false≢true closed)

-- the code of an expression of which the patterns bind each name is the same whatever the values around are
module _ (w v : Name → Data) where
  pub closed_same : (e : Expression) (ps : List Pattern) → is_closed ps e ≡ true → compiled w ps e ≡ compiled v ps e
  closed_same (variable x) ps h = same_name (place_of_name x ps) (w x) (v x) h
  closed_same (literal l) ps h = refl
  closed_same (paired i j) ps h = let each = and_parts _ _ h in ap₂ trees.paired (closed_same i ps each.0) (closed_same j ps each.1)
  closed_same (applied o i) ps h = ap (trees.applied o) (closed_same i ps h)
  closed_same (operation i op j) ps h =
      let each = and_parts _ _ h in ap₂ (λ (a b : Code). trees.operation a op b) (closed_same i ps each.0) (closed_same j ps each.1)
  closed_same (conditional i j k) ps h =
      let each = and_parts _ _ h in
      let branches = and_parts _ _ each.1 in
      ap₂ (λ (a : Code) (b : Code × Code). trees.conditional a b.0 b.1) (closed_same i ps each.0)
      (ap₂ (λ (a b : Code). (a, b)) (closed_same j ps branches.0) (closed_same k ps branches.1))
  closed_same (mapped i m p j) ps h =
      let each = and_parts _ _ h in ap₂ (λ (a b : Code). trees.mapped a m b) (closed_same i ps each.0) (closed_same j (p ∷ ps) each.1)
  closed_same (folded i o j p k) ps h =
      let each = and_parts _ _ h in
      let later = and_parts _ _ each.1 in
      ap₂ (λ (a : Code) (b : Code × Code). trees.folded a o b.0 b.1) (closed_same i ps each.0)
      (ap₂ (λ (a b : Code). (a, b)) (closed_same j ps later.0) (closed_same k (p ∷ ps) later.1))
  closed_same (called g i) ps h = ap (trees.called g) (closed_same i ps h)
