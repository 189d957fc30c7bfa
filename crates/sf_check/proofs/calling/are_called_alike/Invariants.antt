use Rattle.std.proofs.Common.{◌<◌}
use Rattle.sf_func.specs.Signatures.{signatures_in}
use Rattle.sf_expr.specs.declared.exprs.ExprId.{ExprId}
use Rattle.sf_expr.specs.Arena.{id_number, node_at}
use Rattle.sf_check.specs.Calling.{IsCalledAlike}
use Rattle.sf_check.proofs.calling.are_called_alike.Given as goal

abbrev pub invariant-loop-number : goal.invariant-loop-number
invariant-loop-number g l = (i : ExprId) → id_number i < l.number → IsCalledAlike l.exprs (signatures_in l.here) (g.R.Holds.types l.there) (node_at l.exprs i)
