use Rattle.std.proofs.Common.{length}
use Rattle.sf_code.proofs.around.+balanced.Given as goal

abbrev pub decreases-balanced : goal.decreases-balanced
decreases-balanced l = length l.names.now
