use Rattle.sf_begin.proofs.Begins.{open_exit, open_probe}
use Rattle.sf_begin.proofs.opening.probe.Goals as goal

pub returns-in_err-same : goal.returns-in_err-same
returns-in_err-same c = λ μ t B x e. open_exit μ t e _ c.from_residual.ensures.1

pub returns-in_err-node : goal.returns-in_err-node
returns-in_err-node c = λ μ t B x e. open_exit μ t e _ c.from_residual-in_err-node.ensures.1

pub returns : goal.returns
returns c = λ μ t B. open_probe μ c.args.name.now c.in_ok-same.same t c.in_ok-node.node c.in_ok-node.ensures.ok B c.in_ok-same.ensures.cases
