use Rattle.std.proofs.Common.{length}
use Rattle.sf_law.proofs.mentioned.+any_is_bound.Given as goal

abbrev pub decreases-any_is_bound : goal.decreases-any_is_bound
decreases-any_is_bound l = length l.names.now
