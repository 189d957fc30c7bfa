use Rattle.std.proofs.Common.{◌+◌, ◌*◌, max}
use Rattle.sf_code.proofs.compiler.+compile.Given as goal

abbrev pub decreases-compile : goal.decreases-compile
decreases-compile l = 4 * l.id.0

abbrev pub decreases-boxed : goal.decreases-boxed
decreases-boxed l = 4 * l.id.0 + 1

abbrev pub decreases-within : goal.decreases-within
decreases-within l = 4 * l.body.0 + 2

abbrev pub decreases-both : goal.decreases-both
decreases-both l = 4 * max l.first.0 l.second.0 + 2

abbrev pub decreases-conditional : goal.decreases-conditional
decreases-conditional l = 4 * max l.condition.0 (max l.first.0 l.second.0) + 3

abbrev pub decreases-mapped : goal.decreases-mapped
decreases-mapped l = 4 * max l.node.part.0 l.node.body.0 + 3

abbrev pub decreases-folded : goal.decreases-folded
decreases-folded l = 4 * max l.node.first.0 (max l.node.second.0 l.node.body.0) + 3

abbrev pub decreases-called : goal.decreases-called
decreases-called l = 4 * l.part.0 + 3

abbrev pub decreases-operation : goal.decreases-operation
decreases-operation l = 4 * max l.left.0 l.right.0 + 1
