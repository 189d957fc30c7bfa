use Rattle.std.proofs.Common.{◌+◌, ◌*◌, max}
use Rattle.sf_print.proofs.expressions.+expression.Given as goal

-- an expression, then its form, and then the parts of the form
abbrev pub decreases-write_expression : goal.decreases-write_expression
decreases-write_expression l = 4 * l.id.0

abbrev pub decreases-write_two : goal.decreases-write_two
decreases-write_two l = 4 * max l.first.0 l.second.0 + 1

abbrev pub decreases-write_one : goal.decreases-write_one
decreases-write_one l = 4 * l.part.0 + 1

abbrev pub decreases-write_mapping : goal.decreases-write_mapping
decreases-write_mapping l = 4 * l.body.0 + 1

abbrev pub decreases-write_applied : goal.decreases-write_applied
decreases-write_applied l = 4 * l.part.0 + 2

abbrev pub decreases-write_operation : goal.decreases-write_operation
decreases-write_operation l = 4 * max l.left.0 l.right.0 + 2

abbrev pub decreases-write_conditional : goal.decreases-write_conditional
decreases-write_conditional l = 4 * max l.condition.0 (max l.first.0 l.second.0) + 2

abbrev pub decreases-write_let : goal.decreases-write_let
decreases-write_let l = 4 * max l.part.0 l.body.0 + 2

abbrev pub decreases-write_mapped : goal.decreases-write_mapped
decreases-write_mapped l = 4 * max l.node.part.0 l.node.body.0 + 3

abbrev pub decreases-write_folded : goal.decreases-write_folded
decreases-write_folded l = 4 * max l.node.first.0 (max l.node.second.0 l.node.body.0) + 2

abbrev pub decreases-write_called : goal.decreases-write_called
decreases-write_called l = 4 * l.part.0 + 2
