use Rattle.std.proofs.Common.{◌+◌, ◌*◌}
use Rattle.sf_expr.specs.Arena.{id_number}
use Rattle.sf_differ.proofs.expression.+explain.Given as goal

-- an expression, then its form
abbrev pub decreases-explain : goal.decreases-explain
decreases-explain l = 6 * id_number l.id + 1

abbrev pub decreases-part_type : goal.decreases-part_type
decreases-part_type l = 6 * id_number l.id + 2

abbrev pub decreases-explain_pair : goal.decreases-explain_pair
decreases-explain_pair l = 6 * id_number l.id

abbrev pub decreases-explain_applied : goal.decreases-explain_applied
decreases-explain_applied l = 6 * id_number l.id

abbrev pub decreases-explain_operation : goal.decreases-explain_operation
decreases-explain_operation l = 6 * id_number l.id

abbrev pub decreases-explain_conditional : goal.decreases-explain_conditional
decreases-explain_conditional l = 6 * id_number l.id

abbrev pub decreases-explain_mapped : goal.decreases-explain_mapped
decreases-explain_mapped l = 6 * id_number l.id

abbrev pub decreases-explain_folded : goal.decreases-explain_folded
decreases-explain_folded l = 6 * id_number l.id

abbrev pub decreases-explain_called : goal.decreases-explain_called
decreases-explain_called l = 6 * id_number l.id

-- what stands behind a pattern is typed between the form and the expression
abbrev pub decreases-part_behind : goal.decreases-part_behind
decreases-part_behind l = 6 * id_number l.body + 4

abbrev pub decreases-part_within : goal.decreases-part_within
decreases-part_within l = 6 * id_number l.body + 3
