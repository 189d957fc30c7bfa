use Rattle.sf_law.specs.Arena.{plan_tree}
use Rattle.sf_begin.specs.Contexts.{context_machine}
use Rattle.sf_begin.proofs.Begins.{headed_at_first, open_wrap_fails}
use Rattle.sf_begin.proofs.opening.headed.Goals as goal

pub returns-in-Ok : goal.returns-in-Ok
returns-in-Ok g c = λ i x e C N.
    let μ = context_machine g.R.Holds.answers c.args.context.now in
    c.wrapped.ensures μ _ x e N (headed_at_first μ c.args.heading i c.args.code.now (plan_tree μ.plan c.args.part) c.args.names.now c.constant_in-worth.result _ (c.constant_in-worth.ensures _) c.in-Ok.ensures x e C N)

pub returns-in-Err : goal.returns-in-Err
returns-in-Err g c = λ i x e C N.
    let μ = context_machine g.R.Holds.answers c.args.context.now in
    open_wrap_fails μ _ (plan_tree μ.plan c.args.part) x e c.in-Err.fault (headed_at_first μ c.args.heading i c.args.code.now (plan_tree μ.plan c.args.part) c.args.names.now c.constant_in-worth.result _ (c.constant_in-worth.ensures _) c.in-Err.ensures x e C N)
