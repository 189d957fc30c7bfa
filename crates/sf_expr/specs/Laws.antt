-- What holds of expressions.
use Rattle.std.specs.Prelude.{◌≡◌}
use Rattle.sf_value.specs.Values.{Kind, Data, HasKind}
use Rattle.sf_refusal.specs.declared.spot.Spot.{Spot}
use Rattle.sf_refusal.specs.declared.refusal.Breach.{Breach}
use Rattle.sf_expr.specs.declared.exprs.ExprId.{ExprId}
use Rattle.sf_expr.specs.declared.exprs.FunctionId.{FunctionId}
use Rattle.sf_expr.specs.declared.exprs.Exprs.{Exprs}
use Rattle.sf_expr.specs.Expressions.{Expression, Function}
use Rattle.sf_expr.specs.Evaluation.{Scope, eval, apply}
use Rattle.sf_expr.specs.Typing.{Names, HasType, FunctionTakes}
use Rattle.sf_expr.specs.Refusals.{Refused, FunctionRefused}
use Rattle.sf_expr.specs.Soundness.{Yields, ScopeHas}

-- A typed expression is worth a value of its type, or a fault.
abbrev pub EachExpressionYields : Type 0
EachExpressionYields = (R : Names) (s : Scope) (e : Expression) (t : Kind) → HasType R e t → ScopeHas s R → Yields t (eval e s)

-- A function answers a value of the type that it takes its argument's to, or a fault.
abbrev pub EachFunctionYields : Type 0
EachFunctionYields = (R : Names) (s : Scope) (f : Function) (a b : Kind) (d : Data) → FunctionTakes R f a b → ScopeHas s R → HasKind d a → Yields b (apply f d s)

-- An expression breaks one rule at most first, at one place.
abbrev pub EachExpressionRefusedOnce : Type 0
EachExpressionRefusedOnce = (x : Exprs) (R : Names) (i : ExprId) (r q : Breach) → Refused x R i r → Refused x R i q → r ≡ q

-- A function of values of a type breaks one rule at most first, at one place.
abbrev pub EachFunctionRefusedOnce : Type 0
EachFunctionRefusedOnce = (x : Exprs) (R : Names) (f : FunctionId) (a : Kind) (at : Spot) (r q : Breach) → FunctionRefused x R f a at r → FunctionRefused x R f a at q → r ≡ q
