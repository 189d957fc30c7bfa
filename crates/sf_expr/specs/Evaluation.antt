-- What expressions are worth.
use Rattle.std.specs.Prelude.{cond, Option, Some, None, bytes_eq}
use Rattle.sf_value.specs.Values.{Name, Data, unit, truth, number, text, pair, no_event, first_of, second_of}
use Rattle.sf_value.specs.declared.fault.ValueFault.TheVariants as faults
use Rattle.sf_func.specs.Registries.{AnswersByName}
pub use Rattle.sf_operator.specs.Outcomes.{Evaluated, answer, failed, ◌>>=◌, nonsense, known}
use Rattle.sf_operator.specs.Operations.{truth_held, unary_value, decided, operated}
use Rattle.sf_operator.specs.FunctionForms.{mapped_value, folded_value}
use Rattle.sf_expr.specs.Expressions.{Pattern, unnamed, named, both, Literal, unit_literal, truth_literal, int_literal, text_literal, none_literal, Expression, variable, literal, paired, applied, operation, conditional, mapped, folded, called, Function, function}

-- The names around an expression, the innermost first: those that it may use with their values, and others, which stand for
-- no value; and last the functions that it may call.
pub data Scope : Type 0 where
  no_names : AnswersByName → Scope
  value_name : Name → Data → Scope → Scope
  other_name : Name → Scope → Scope

-- the functions of a scope
abbrev pub scope_functions : Scope → AnswersByName
scope_functions (no_names f) = f
scope_functions (value_name x d scope) = scope_functions scope
scope_functions (other_name x scope) = scope_functions scope

-- the value of a name
abbrev pub value_of : Name → Scope → Data
value_of x (no_names f) = nonsense
value_of x (value_name y d scope) = cond (bytes_eq x y) d (value_of x scope)
value_of x (other_name y scope) = cond (bytes_eq x y) nonsense (value_of x scope)

-- the scope inside a pattern that a value was bound to
abbrev pub bound_in : Pattern → Data → Scope → Scope
bound_in unnamed d scope = scope
bound_in (named x) d scope = value_name x d scope
bound_in (both p q) d scope = bound_in q (second_of d) (bound_in p (first_of d) scope)

-- a literal's value
abbrev pub literal_value : Literal → Data
literal_value unit_literal = unit
literal_value (truth_literal b) = truth b
literal_value (int_literal z) = number z
literal_value (text_literal s) = text s
literal_value (none_literal t) = no_event

-- what is answered where the first operand decides alone, and where it doesn't
abbrev pub unless_decided : Option Data → Evaluated Data → Evaluated Data
unless_decided (Some d) else = answer d
unless_decided None else = else

-- what a function answers, or that it refuses
abbrev pub granted : Option Data → Evaluated Data
granted (Some d) = answer d
granted None = failed faults.Function

-- what an expression is worth: operands stand from left to right, and the first fault is the answer; the second operand of `and` and `or` is
-- looked at only where the first doesn't decide, and of an `if` only the chosen branch; a function binds the names of its pattern to its argument
abbrev pub eval : Expression → Scope → Evaluated Data
eval (variable x) scope = answer (value_of x scope)
eval (literal l) scope = answer (literal_value l)
eval (paired i j) scope = eval i scope >>= λ a. eval j scope >>= λ b. answer (pair a b)
eval (applied o i) scope = eval i scope >>= unary_value o
eval (operation i op j) scope = eval i scope >>= λ a. unless_decided (decided op a) (eval j scope >>= operated op a)
eval (conditional i j k) scope = eval i scope >>= λ c. known (truth_held c) (λ b. cond b (eval j scope) (eval k scope))
eval (mapped i m p j) scope = eval i scope >>= λ a. mapped_value m a (λ x. eval j (bound_in p x scope))
eval (folded i o j p k) scope = eval i scope >>= λ a. folded_value o a (eval j scope) (λ x. eval k (bound_in p x scope))
eval (called g i) scope = eval i scope >>= λ a. granted (scope_functions scope g a)

-- what a function answers to a value
abbrev pub apply : Function → Data → Scope → Evaluated Data
apply (function p i) x scope = eval i (bound_in p x scope)
