use Rattle.sf_law.proofs.Enough.{EnoughBelow}
use Rattle.sf_law.proofs.mentioned.Mentioned.lack.Given as goal

abbrev pub invariant-loop-number : goal.invariant-loop-number
invariant-loop-number l = EnoughBelow l.plan l.self l.number
