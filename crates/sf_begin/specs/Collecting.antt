-- Members that are collected.
use Rattle.std.specs.Prelude.{[], Result}
use Rattle.sf_value.specs.declared.fault.Fault.{Fault}
use Rattle.sf_func.specs.Registries.{AnswersByName}
use Rattle.sf_expr.specs.Expressions.{Expression}
use Rattle.sf_expr.specs.Evaluation.{Evaluated, answer, ◌>>=◌, eval}
use Rattle.sf_term.specs.Trees.{Term}
use Rattle.sf_mean.specs.Lives.{Environment, Members, closure, scope_around}
use Rattle.sf_mean.specs.Collections.{as_key, add, drop}
use Rattle.sf_state.specs.declared.state.Gathered.{Gathered}
use Rattle.sf_state.specs.Held.{gathered_holding}
use Rattle.sf_state.specs.Standing.{Gathers}
use Rattle.sf_state.specs.Machine.{Machine}
use Rattle.sf_begin.specs.Beginning.{Makes}

-- states under keys are these members, of which no step has been lived
abbrev pub HasMembers : Machine → Gathered → Members → Type 0
HasMembers μ g ms = Gathers μ (gathered_holding g) ms []

-- states under keys are the members that are made, or the fault is theirs
abbrev pub MakesMembers : Machine → Evaluated Members → Result Gathered Fault → Type 0
MakesMembers μ w r = Makes (HasMembers μ) w r

-- members with a term added under the key that an expression is worth in an environment
abbrev pub added_under : AnswersByName → Expression → Term → Environment → Members → Evaluated Members
added_under φ j t e ms = eval j (scope_around φ e) >>= λ v. answer (add (as_key v) (closure t e) ms)

-- members without the one under such a key
abbrev pub dropped_under : AnswersByName → Expression → Environment → Members → Evaluated Members
dropped_under φ j e ms = eval j (scope_around φ e) >>= λ v. answer (drop (as_key v) ms)
