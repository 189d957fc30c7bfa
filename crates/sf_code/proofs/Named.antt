-- Scopes of values under names.
use Rattle.std.proofs.Common.{◌≡◌, Bool, true, false, cond, [], ◌∷◌, refl, ap, sym, ◌∙◌}
use Rattle.std.specs.Prelude.{Option, Some, None, bytes_eq, unwrap_or}
use Rattle.sf_value.specs.Values.{Name, Data}
use Rattle.sf_func.specs.Registries.{AnswersByName}
use Rattle.sf_operator.specs.Outcomes.{nonsense}
use Rattle.sf_expr.specs.Evaluation.{Scope, scope_functions, value_of}
use Rattle.sf_code.specs.Names.{ValuesByName, value_named, value_among, name_over, scope_with}

chosen : (b : Bool) (o q : Option Data) → cond b (unwrap_or o nonsense) (unwrap_or q nonsense) ≡ unwrap_or (cond b o q) nonsense
chosen true o q = refl
chosen false o q = refl

value_over : (x y : Name) (o : Option Data) (s : Scope) → value_of x (name_over y o s) ≡ cond (bytes_eq x y) (unwrap_or o nonsense) (value_of x s)
value_over x y (Some d) s = refl
value_over x y None s = refl

functions_over : (y : Name) (o : Option Data) (s : Scope) → scope_functions (name_over y o s) ≡ scope_functions s
functions_over y (Some d) s = refl
functions_over y None s = refl

-- a name has its value in the scope
pub value_with : (vs : ValuesByName) (f : AnswersByName) (x : Name) → value_among vs x ≡ value_of x (scope_with vs f)
value_with [] f x = refl
value_with (v ∷ vs) f x =
    sym (value_over x v.0 v.1 (scope_with vs f)
    ∙ ap (λ (d : Data). cond (bytes_eq x v.0) (unwrap_or v.1 nonsense) d) (sym (value_with vs f x))
    ∙ chosen (bytes_eq x v.0) v.1 (value_named vs x))

-- functions answer as they do in the scope
pub functions_with : (vs : ValuesByName) (f : AnswersByName) → scope_functions (scope_with vs f) ≡ f
functions_with [] f = refl
functions_with (v ∷ vs) f = functions_over v.0 v.1 (scope_with vs f) ∙ functions_with vs f
