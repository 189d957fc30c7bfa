use Rattle.std.proofs.Common.{◌+◌, ◌*◌}
use Rattle.sf_code.specs.CodeView.{code_of}
use Rattle.sf_code.proofs.Sized.{code_size}
use Rattle.sf_code.proofs.arithmetic.+calculated.Given as goal

abbrev pub decreases-calculated : goal.decreases-calculated
decreases-calculated l = 4 * code_size (code_of l.code.now)

abbrev pub decreases-at_once : goal.decreases-at_once
decreases-at_once l = 4 * (code_size (code_of l.left.now) + code_size (code_of l.right.now)) + 3

abbrev pub decreases-operation : goal.decreases-operation
decreases-operation l = 4 * (code_size (code_of l.left.now) + code_size (code_of l.right.now)) + 2
