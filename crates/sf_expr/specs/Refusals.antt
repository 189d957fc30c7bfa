-- Why expressions and functions have no type.
use Rattle.std.specs.Prelude.{◌≡◌, ◌<◌, Result, Ok, Err}
use Rattle.sf_value.specs.Values.{Kind, pair_kind, nodes}
use Rattle.sf_refusal.specs.declared.spot.Spot.{Spot}
use Rattle.sf_refusal.specs.declared.rule.Rule.TheVariants.{Mismatch, TypeTooLarge}
use Rattle.sf_refusal.specs.declared.refusal.Breach.{Breach}
use Rattle.sf_refusal.specs.declared.refusal.Refusal.{Refusal}
use Rattle.sf_refusal.specs.Refusals.{breach_of, OrMemory}
use Rattle.sf_expr.specs.declared.exprs.ExprId.{ExprId}
use Rattle.sf_expr.specs.declared.exprs.FunctionId.{FunctionId}
use Rattle.sf_expr.specs.declared.exprs.Exprs.{Exprs}
use Rattle.sf_expr.specs.Expressions.{Pattern, Expression, Function}
use Rattle.sf_expr.specs.Patterns.{PlacedPattern}
use Rattle.sf_expr.specs.Arena.{expression, function_at}
use Rattle.sf_expr.specs.Typing.{Names, Fits, AddsNames, HasType, FunctionTakes}
use Rattle.sf_expr.specs.Judging.{judged_binding, judged, function_judged}

-- The answer for an expression: its type, or a refusal, where it has none. Want of memory says nothing of it.
abbrev pub Types : Names → Expression → Result Kind Refusal → Type 0
Types R e (Ok t) = HasType R e t
Types R e (Err r) = OrMemory (λ _. (t : Kind) → HasType R e t → ⊥) r

-- The answer for a function of values of a type: the type that it takes them to, or a refusal, where there is none.
abbrev pub TypesFunction : Names → Function → Kind → Result Kind Refusal → Type 0
TypesFunction R f a (Ok b) = FunctionTakes R f a b
TypesFunction R f a (Err r) = OrMemory (λ _. (b : Kind) → FunctionTakes R f a b → ⊥) r

-- why a pattern is not bound to a type
abbrev pub BindRefused : Pattern → Kind → Spot → Breach → Type 0
BindRefused p t at b = (b ≡ breach_of Mismatch at) × ((R S : Names) → AddsNames p t R S → ⊥)

-- The first rule that a pattern for a type breaks, and where, whatever names stand around.
pub record PatternRefused (p : PlacedPattern) (t : Kind) (at : Spot) (b : Breach) : Type 0 where
  pub first : (R : Names) → judged_binding at p t R ≡ Err b

-- The first rule that an expression breaks, and where.
pub record Refused (x : Exprs) (R : Names) (i : ExprId) (b : Breach) : Type 0 where
  pub first : judged x i R ≡ Err b

-- The answer for an expression: its type, or the first rule that it breaks.
abbrev pub Judges : Exprs → Names → ExprId → Result Kind Refusal → Type 0
Judges x R i (Ok t) = HasType R (expression x i) t
Judges x R i (Err r) = OrMemory (Refused x R i) r

-- why there is no type of pairs of two types, at a place
abbrev pub PairRefused : Kind → Kind → Spot → Breach → Type 0
PairRefused t u at b = (b ≡ breach_of TypeTooLarge at) × (256 < nodes (pair_kind t u))

-- the answer for the type of pairs of two types, at a place
abbrev pub AnswersPair : Kind → Kind → Spot → Result Kind Refusal → Type 0
AnswersPair t u at (Ok w) = (w ≡ pair_kind t u) × Fits w
AnswersPair t u at (Err r) = OrMemory (PairRefused t u at) r

-- The first rule that a function of values of a type breaks, and where.
pub record FunctionRefused (x : Exprs) (R : Names) (f : FunctionId) (a : Kind) (at : Spot) (b : Breach) : Type 0 where
  pub first : function_judged x f at a R ≡ Err b

-- The answer for a function of values of a type: the type that it takes them to, or the first rule that it breaks.
abbrev pub JudgesFunction : Exprs → Names → FunctionId → Kind → Spot → Result Kind Refusal → Type 0
JudgesFunction x R f a at (Ok u) = FunctionTakes R (function_at x f) a u
JudgesFunction x R f a at (Err r) = OrMemory (FunctionRefused x R f a at) r
