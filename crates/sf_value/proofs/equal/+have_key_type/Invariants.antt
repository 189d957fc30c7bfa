use Rattle.std.proofs.Common.{length}
use Rattle.sf_value.proofs.equal.+have_key_type.Given as goal

abbrev pub decreases-have_key_type : goal.decreases-have_key_type
decreases-have_key_type l = length l.keys.now
