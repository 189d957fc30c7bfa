use Rattle.std.proofs.Common.{◌+◌, ◌*◌}
use Rattle.sf_expr.proofs.typing.+judge.Given as goal

abbrev pub decreases-judge : goal.decreases-judge
decreases-judge l = 5 * l.id.0 + 2

abbrev pub decreases-judge_form : goal.decreases-judge_form
decreases-judge_form l = 5 * l.id.0 + 1

abbrev pub decreases-judge_conditional : goal.decreases-judge_conditional
decreases-judge_conditional l = 5 * l.id.0

abbrev pub decreases-judge_mapped : goal.decreases-judge_mapped
decreases-judge_mapped l = 5 * l.id.0

abbrev pub decreases-judge_folded : goal.decreases-judge_folded
decreases-judge_folded l = 5 * l.id.0

abbrev pub decreases-judge_part : goal.decreases-judge_part
decreases-judge_part l = 5 * l.body.0 + 4

abbrev pub decreases-judge_within : goal.decreases-judge_within
decreases-judge_within l = 5 * l.body.0 + 3
