-- Typed values in typed places.
use Rattle.sf_value.specs.Values.{Name, Data, Kind, HasKind}
use Rattle.sf_func.specs.Registries.{TypesByName, AnswersByName, KeepTheirTypes}
pub use Rattle.sf_operator.specs.Answers.{Yields, yields, fails}
use Rattle.sf_expr.specs.Evaluation.{Scope, no_names, value_name, other_name}
use Rattle.sf_expr.specs.Typing.{Names, only_functions, typed_name, untyped_name}

-- Values have the types of their names, in the same order, and functions keep theirs.
pub data ScopeHas : Scope → Names → Type 0 where
  has_no_names : {f : AnswersByName} {fs : TypesByName} → KeepTheirTypes fs f → ScopeHas (no_names f) (only_functions fs)
  has_name : {x : Name} {v : Data} {t : Kind} {s : Scope} {R : Names} → HasKind v t → ScopeHas s R → ScopeHas (value_name x v s) (typed_name x t R)
  has_other : {x : Name} {s : Scope} {R : Names} → ScopeHas s R → ScopeHas (other_name x s) (untyped_name x R)
