use Rattle.std.proofs.Common.{not, ap}
use Rattle.sf_operator.proofs.SameData.{same_tested}
use Rattle.sf_operator.proofs.values.equates.Goals as goal

pub returns-in-Equal : goal.returns-in-Equal
returns-in-Equal c = rw c.in-Equal.is (same_tested c.same-same.result c.args.left.now c.args.right.now c.same-same.ensures)

pub returns-in-Unequal : goal.returns-in-Unequal
returns-in-Unequal c = rw c.in-Unequal.is (ap not (same_tested c.same-same.result c.args.left.now c.args.right.now c.same-same.ensures))
