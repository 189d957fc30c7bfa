use Rattle.std.proofs.Common.{length}
use Rattle.sf_law.proofs.mentioned.Mentioned.+add_outside.Given as goal

abbrev pub decreases-add_outside : goal.decreases-add_outside
decreases-add_outside l = length l.names.now
