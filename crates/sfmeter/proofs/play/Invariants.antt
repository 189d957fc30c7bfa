use Rattle.std.proofs.Common.{◌≤◌, ◌-◌, length}
use Rattle.sfmeter.proofs.play.Given as goal

abbrev pub invariant-loop-at : goal.invariant-loop-at
invariant-loop-at g l = l.at ≤ length l.lines

abbrev pub decreases-loop-at : goal.decreases-loop-at
decreases-loop-at g l = length l.lines - l.at
