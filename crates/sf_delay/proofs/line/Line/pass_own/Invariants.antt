use Rattle.std.proofs.Common.{◌≡◌, length, None}
use Rattle.sf_delay.specs.Delays.{PassesOn}
use Rattle.sf_delay.proofs.line.Line.pass_own.Given as goal

abbrev pub invariant-loop-wait : goal.invariant-loop-wait
invariant-loop-wait l = (l.self.shared ≡ l.initial.self.shared) × (l.initial.self.shared ≡ None → PassesOn l.initial.self l.initial.left l.self l.left)

abbrev pub decreases-loop-wait : goal.decreases-loop-wait
decreases-loop-wait l = length l.self.young.items
