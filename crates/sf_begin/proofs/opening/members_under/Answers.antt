use Rattle.sf_begin.proofs.Begins.{open_exit, open_failure, open_releasing, open_releasing_fails}
use Rattle.sf_begin.proofs.opening.members_under.Goals as goal
use Rattle.sf_begin.specs.Contexts.{context_machine}

pub returns-in_err-members : goal.returns-in_err-members
returns-in_err-members g c = λ t B x e N.
    let μ = context_machine g.R.Holds.answers c.args.context.now in
    let f = c.in_err-members.field-0.0 in
    open_failure μ t e _ f c.from_residual.ensures.1 (open_releasing_fails μ c.args.form.now t f B x e ((rw c.deref.ensures at c.in_err-members.ensures) e N))

pub returns-in_err-before : goal.returns-in_err-before
returns-in_err-before g c = λ t B x e N. open_exit (context_machine g.R.Holds.answers c.args.context.now) t e _ c.from_residual-in_err-before.ensures.1

pub returns-in_err-around : goal.returns-in_err-around
returns-in_err-around g c = λ t B x e N. open_exit (context_machine g.R.Holds.answers c.args.context.now) t e _ c.from_residual-in_err-around.ensures.1

pub returns-in_err-node : goal.returns-in_err-node
returns-in_err-node g c = λ t B x e N. open_exit (context_machine g.R.Holds.answers c.args.context.now) t e _ c.from_residual-in_err-node.ensures.1

pub returns : goal.returns
returns g c = λ t B x e N.
    let μ = context_machine g.R.Holds.answers c.args.context.now in
    open_releasing μ c.args.form.now t c.in_ok-members.members c.in_ok-before.before c.in_ok-around.around c.in_ok-node.node c.in_ok-node.ensures.ok B x e ((rw c.deref.ensures at c.in_ok-members.ensures) e N) (c.in_ok-around.ensures μ e N)
