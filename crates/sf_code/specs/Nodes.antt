-- How code is kept.
use Rattle.std.specs.Prelude.{Bool, true, false, is_some}
use Rattle.sf_operator.specs.Operations.{number_held}
use Rattle.sf_code.specs.declared.code.Code.{Code}
use Rattle.sf_code.specs.declared.code.Code.TheVariants.{Place, Constant, Event, WithNumber, NumberWith, Compared, Equated}

-- whether code is a place
abbrev pub is_place : Code → Bool
is_place (Place p) = true
is_place c = false

-- whether code is a value
abbrev pub is_value : Code → Bool
is_value (Constant v) = true
is_value c = false

-- whether code is a number
abbrev pub is_number : Code → Bool
is_number (Constant v) = is_some (number_held v)
is_number c = false

-- whether code is, as one node, arithmetic between a place and a number, in either order, a place compared with a number, or the event of a value
abbrev pub is_one_node : Code → Bool
is_one_node (Event e) = true
is_one_node (WithNumber o p n) = true
is_one_node (NumberWith o n p) = true
is_one_node (Compared o p n) = true
is_one_node (Equated o p n) = true
is_one_node c = false
