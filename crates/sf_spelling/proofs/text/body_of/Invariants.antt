use Rattle.std.proofs.Common.{length}
use Rattle.sf_spelling.proofs.Bodies.{Follows}
use Rattle.sf_spelling.proofs.text.body_of.Given as goal

abbrev pub invariant-loop-left : goal.invariant-loop-left
invariant-loop-left l = Follows l.bytes l.chars.items l.point l.left

abbrev pub decreases-loop-left : goal.decreases-loop-left
decreases-loop-left l = length l.left
