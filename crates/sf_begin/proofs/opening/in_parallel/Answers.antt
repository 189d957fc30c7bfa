use Rattle.sf_begin.proofs.Begins.{open_exit, open_parallel}
use Rattle.sf_begin.proofs.opening.in_parallel.Goals as goal

pub returns-in_err-one : goal.returns-in_err-one
returns-in_err-one c = λ μ t J x e N. open_exit μ t e _ c.from_residual.ensures.1

pub returns-in_err-two : goal.returns-in_err-two
returns-in_err-two c = λ μ t J x e N. open_exit μ t e _ c.from_residual-in_err-two.ensures.1

pub returns-in_err-node : goal.returns-in_err-node
returns-in_err-node c = λ μ t J x e N. open_exit μ t e _ c.from_residual-in_err-node.ensures.1

pub returns : goal.returns
returns c = λ μ t.
    open_parallel μ c.args.left c.args.right t c.args.names.now c.in_ok-one.one c.in_ok-two.two c.in_ok-node.node c.in_ok-node.ensures.ok (c.in_ok-one.ensures μ) (c.in_ok-two.ensures μ)
