use Rattle.std.proofs.Common.{length}
use Rattle.sf_decimal.proofs.Runs.{Extends}
use Rattle.sf_decimal.proofs.read.digits_behind.Given as goal

abbrev pub invariant-loop-rest : goal.invariant-loop-rest
invariant-loop-rest l = Extends l.fn.number l.bytes l.number l.rest

abbrev pub decreases-loop-rest : goal.decreases-loop-rest
decreases-loop-rest l = length l.rest
