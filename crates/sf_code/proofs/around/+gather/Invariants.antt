use Rattle.std.proofs.Common.{◌+◌, ◌*◌, max}
use Rattle.sf_code.proofs.around.+gather.Given as goal

abbrev pub decreases-gather : goal.decreases-gather
decreases-gather l = 2 * l.id.0

abbrev pub decreases-gather_within : goal.decreases-gather_within
decreases-gather_within l = 2 * l.body.0 + 1

abbrev pub decreases-gather_both : goal.decreases-gather_both
decreases-gather_both l = 2 * max l.first.0 l.second.0 + 1
