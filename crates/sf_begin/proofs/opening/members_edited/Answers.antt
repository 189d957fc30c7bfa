use Rattle.sf_begin.proofs.Begins.{open_exit, open_failure, open_editing, open_editing_fails}
use Rattle.sf_begin.proofs.opening.members_edited.Goals as goal
use Rattle.sf_begin.specs.Contexts.{context_machine}

pub returns-in_err-members : goal.returns-in_err-members
returns-in_err-members g c = λ t B x e N.
    let μ = context_machine g.R.Holds.answers c.args.context.now in
    let f = c.in_err-members.field-0.0 in
    open_failure μ t e _ f c.from_residual.ensures.1 (open_editing_fails μ c.args.form.now t f B x e ((rw c.deref.ensures at c.in_err-members.ensures) e N))

pub returns-in_err-edit : goal.returns-in_err-edit
returns-in_err-edit g c = λ t B x e N. open_exit (context_machine g.R.Holds.answers c.args.context.now) t e _ c.from_residual-in_err-edit.ensures.1

pub returns-in_err-node : goal.returns-in_err-node
returns-in_err-node g c = λ t B x e N. open_exit (context_machine g.R.Holds.answers c.args.context.now) t e _ c.from_residual-in_err-node.ensures.1

pub returns : goal.returns
returns g c = λ t B x e N.
    let μ = context_machine g.R.Holds.answers c.args.context.now in
    open_editing μ c.args.form.now t c.in_ok-members.members c.in_ok-edit.edit c.in_ok-node.node c.in_ok-edit.ensures.cases c.in_ok-node.ensures.ok B x e ((rw c.deref.ensures at c.in_ok-members.ensures) e N)
