use Rattle.std.proofs.Common.{sym, subst}
use Rattle.sf_begin.specs.Beginning.{AllBegin}
use Rattle.sf_begin.proofs.Begins.{open_exit, open_staged}
use Rattle.sf_begin.proofs.opening.pipeline.Goals as goal

pub returns-in_err-begun : goal.returns-in_err-begun
returns-in_err-begun c = λ μ v t same B x e N. open_exit μ t e _ c.from_residual.ensures.1

pub returns-in_err-node : goal.returns-in_err-node
returns-in_err-node c = λ μ v t same B x e N. open_exit μ t e _ c.from_residual-in_err-node.ensures.1

pub returns : goal.returns
returns c = λ μ v t same B x e N.
    open_staged μ v t c.in_ok-begun.begun c.in_ok-node.node c.in_ok-node.ensures.ok e B (subst (λ ids. AllBegin μ e ids c.in_ok-begun.begun.items) (sym same) (c.in_ok-begun.ensures μ e N))
