use Rattle.sf_operator.proofs.Answering.{not_same}
use Rattle.sf_operator.proofs.kinds.same.Goals as goal

pub returns-else-same_type-clause-err : goal.returns-else-same_type-clause-err
returns-else-same_type-clause-err c = (not_same c.args.left.now c.args.right.now c.if-same_type.ensures, c.broken.ensures)
