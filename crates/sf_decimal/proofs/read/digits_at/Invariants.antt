use Rattle.std.proofs.Common.{◌-◌}
use Rattle.sf_decimal.proofs.Runs.{ReadsShort}
use Rattle.sf_decimal.proofs.read.digits_at.Given as goal

abbrev pub invariant-loop-len : goal.invariant-loop-len
invariant-loop-len l = ReadsShort l.bytes l.number l.len l.end

abbrev pub decreases-loop-len : goal.decreases-loop-len
decreases-loop-len l = l.end - l.len
