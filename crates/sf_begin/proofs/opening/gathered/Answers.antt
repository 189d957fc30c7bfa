use Rattle.sf_law.specs.Arena.{plan_collection}
use Rattle.sf_begin.specs.Contexts.{context_machine}
use Rattle.sf_term.specs.Trees.{gathered}
use Rattle.sf_begin.proofs.Begins.{open_exit, open_failure, open_gathered, open_gathered_fails}
use Rattle.sf_begin.proofs.opening.gathered.Goals as goal

pub returns-in_err-all : goal.returns-in_err-all
returns-in_err-all g c = λ x e C N.
    let μ = context_machine g.R.Holds.answers c.args.context.now in
    open_failure μ (gathered (plan_collection μ.plan c.args.members.now)) e _ c.in_err-all.field-0.0 c.from_residual.ensures.1 (open_gathered_fails μ c.args.members.now x e c.in_err-all.field-0.0 (c.in_err-all.ensures e N C))

pub returns-in_err-node : goal.returns-in_err-node
returns-in_err-node g c = λ x e C N. open_exit (context_machine g.R.Holds.answers c.args.context.now) _ e _ c.from_residual-in_err-node.ensures.1

pub returns : goal.returns
returns g c = λ x e C N.
    open_gathered (context_machine g.R.Holds.answers c.args.context.now) c.args.members.now c.in_ok-all.all c.in_ok-node.node c.in_ok-node.ensures.ok x e (c.in_ok-all.ensures e N C)
