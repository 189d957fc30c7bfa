use Rattle.sf_begin.proofs.Begins.{open_exit, open_wrap}
use Rattle.sf_begin.proofs.opening.wrapped.Goals as goal

pub returns-in_err-inner : goal.returns-in_err-inner
returns-in_err-inner c = λ μ t x e N W. open_exit μ t e _ c.from_residual.ensures.1

pub returns : goal.returns
returns c = λ μ. open_wrap μ c.args.wrap c.args.part c.args.names.now c.in_ok-inner.inner c.in_ok-node.node c.in_ok-node.ensures.ok (c.in_ok-inner.ensures μ)

pub returns-in_err-node : goal.returns-in_err-node
returns-in_err-node c = λ μ t x e N W. open_exit μ t e _ c.from_residual-in_err-node.ensures.1
