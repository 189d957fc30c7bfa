use Rattle.std.proofs.Common.{◌≡◌, ◌≤◌, ◌++◌, drop, length}
use Rattle.sf_lines.proofs.short.ShortLine.put.Given as goal

abbrev pub invariant-loop-left : goal.invariant-loop-left
invariant-loop-left l = record { within : l.left ≤ length l.text; written : l.self ≡ drop l.left l.text ++ l.fn.self }

abbrev pub decreases-loop-left : goal.decreases-loop-left
decreases-loop-left l = l.left
