-- Values under names.
use Rattle.std.specs.Prelude.{cond, bytes_eq, List, [], ◌∷◌, Option, Some, None, unwrap_or}
use Rattle.sf_value.specs.Values.{Name, Data}
use Rattle.sf_func.specs.Registries.{AnswersByName}
use Rattle.sf_operator.specs.Outcomes.{nonsense}
use Rattle.sf_expr.specs.Evaluation.{Scope, no_names, value_name, other_name}

-- names with their values, the innermost first; none for a name that stands for no value
abbrev pub ValuesByName : Type 0
ValuesByName = List (Name × Option Data)

-- the value of a name: of the same names the first counts
abbrev pub value_named : ValuesByName → Name → Option Data
value_named [] x = None
value_named (v ∷ vs) x = cond (bytes_eq x v.0) v.1 (value_named vs x)

-- the same; without one, what makes no sense
abbrev pub value_among : ValuesByName → Name → Data
value_among vs x = unwrap_or (value_named vs x) nonsense

-- a scope with one name more
abbrev pub name_over : Name → Option Data → Scope → Scope
name_over x (Some d) s = value_name x d s
name_over x None s = other_name x s

-- the scope of these names, where functions answer so
abbrev pub scope_with : ValuesByName → AnswersByName → Scope
scope_with [] f = no_names f
scope_with (v ∷ vs) f = name_over v.0 v.1 (scope_with vs f)
