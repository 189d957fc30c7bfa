use Rattle.std.proofs.Common.{length}
use Rattle.sf_delay.specs.Queues.{kept_shared}
use Rattle.sf_delay.specs.Delays.{PassesOn}
use Rattle.sf_delay.proofs.line.Line.pass_shared.Given as goal

abbrev pub invariant-loop-first : goal.invariant-loop-first
invariant-loop-first l = PassesOn l.initial.self l.initial.left l.self l.left

abbrev pub decreases-loop-first : goal.decreases-loop-first
decreases-loop-first l = length (kept_shared l.self.shared)
