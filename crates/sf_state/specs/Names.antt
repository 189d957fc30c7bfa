-- What the names around a part stand for.
use Rattle.std.specs.Prelude.{ℕ, List, [], ◌∷◌, Option, Some, None}
use Rattle.std.specs.List.{slice_get}
use Rattle.sf_value.specs.Values.{Name, Data, first_of, second_of}
use Rattle.sf_law.specs.declared.plan.Plan.{Plan}
use Rattle.sf_law.specs.Arena.{plan_expressions, header_at}
use Rattle.sf_law.specs.Places.{names_of_parameters}
use Rattle.sf_expr.specs.Expressions.{Pattern, unnamed, named, both}
use Rattle.sf_expr.specs.Patterns.{pattern_of}
use Rattle.sf_expr.specs.Arena.{stored_pattern, name_at}
use Rattle.sf_code.specs.Names.{ValuesByName}
use Rattle.sf_state.specs.declared.env.Env.{Env}
use Rattle.sf_state.specs.declared.env.Call.{items-the_row-Given}
use Rattle.sf_state.specs.declared.env.Handed.{Handed}
use Rattle.sf_state.specs.declared.env.Given.{Given}
use Rattle.sf_state.specs.declared.env.Given.TheVariants.{Value, Process', Members'}
use Rattle.sf_state.specs.declared.env.Payload.{Payload}
use Rattle.sf_state.specs.declared.env.Payload.TheVariants.{Shared, Own}
use Rattle.sf_state.specs.declared.state.Live.{items-the_row-State}
use Rattle.sf_state.specs.Held.{Holding, held_as}
use Rattle.sf_state.specs.declared.env.Env.TheVariants.{Empty as SEmpty, Bound', Running', Collected', Called'}

-- the first of two that is there
abbrev pub found_or : {A : Type 0} → Option A → Option A → Option A
found_or (Some a) o = Some a
found_or None o = o

-- the value that is bound
abbrev pub bound_value : Payload → Data
bound_value (Shared node) = node.value
bound_value (Own d) = d

-- the names of a pattern with the parts of a value, before others
abbrev pub values_inside : Pattern → Data → ValuesByName → ValuesByName
values_inside unnamed d vs = vs
values_inside (named x) d vs = (x, Some d) ∷ vs
values_inside (both p q) d vs = values_inside q (second_of d) (values_inside p (first_of d) vs)

-- the value that is given, if one is
abbrev pub given_value : Option Given → Option Data
given_value None = None
given_value (Some (Value v)) = Some v
given_value (Some (Process' a b inner)) = None
given_value (Some (Members' keys at shape row w)) = None

-- the process that is given, if one is
abbrev pub handed_of : Option Given → Option Handed
handed_of None = None
handed_of (Some (Value v)) = None
handed_of (Some (Process' a b inner)) = Some (record { process = a; base = record { term = b; names = inner } })
handed_of (Some (Members' keys at shape row w)) = None

-- the members that are given, if they are
abbrev pub given_members : Option Given → Option Holding
given_members None = None
given_members (Some (Value v)) = None
given_members (Some (Process' a b inner)) = None
given_members (Some (Members' keys at shape row w)) = Some (held_as keys (items-the_row-State _ row) w)

-- what is given at a place, if there is one
abbrev pub given_at : Option ℕ → List Given → Option Given
given_at None gs = None
given_at (Some i) gs = slice_get gs i

-- the values of names that stand for what is given, before others; one for which nothing is given stands for none
abbrev pub values_given : List Name → List Given → ValuesByName → ValuesByName
values_given [] gs vs = vs
values_given (x ∷ xs) [] vs = values_given xs [] ((x, None) ∷ vs)
values_given (x ∷ xs) (g ∷ gs) vs = values_given xs gs ((x, given_value (Some g)) ∷ vs)

-- the names around a part, with their values where they stand for any, where they are those of a plan
abbrev pub values_around : Plan → Env → ValuesByName
values_around p SEmpty = []
values_around p (Bound' at q v names) = values_inside (pattern_of (stored_pattern (plan_expressions p) q)) v (values_around p names)
values_around p (Running' at k a b inner names) = (name_at (plan_expressions p) k, None) ∷ values_around p names
values_around p (Collected' at k keys list shape row w names) = (name_at (plan_expressions p) k, None) ∷ values_around p names
values_around p (Called' at g shape row) = values_given (names_of_parameters (plan_expressions p) (header_at p g).parameters) (items-the_row-Given _ row) []
