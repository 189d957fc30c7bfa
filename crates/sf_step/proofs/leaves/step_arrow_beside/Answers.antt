use Rattle.std.proofs.Common.{◌∙◌}
use Rattle.sf_prim.specs.declared.prim_state.PrimState.TheVariants.{Arrow}
use Rattle.sf_step.proofs.Primitives.{prim_steps, prim_fails}
use Rattle.sf_step.proofs.leaves.step_arrow_beside.Goals as goal
use Rattle.sf_begin.specs.Contexts.{context_machine}

pub returns-in-Ok-clause-answers : goal.returns-in-Ok-clause-answers
returns-in-Ok-clause-answers g c =
    let own = Arrow c.args.code.now in
    prim_steps (context_machine g.R.Holds.answers c.args.context.now) own own _ c.args.meter.now c.in-Ok.value (c.in-Ok.ensures c.args.context.now.dt)

pub returns-in-Err-clause-answers : goal.returns-in-Err-clause-answers
returns-in-Err-clause-answers g c =
    let own = Arrow c.args.code.now in
    prim_fails (context_machine g.R.Holds.answers c.args.context.now) own own _ c.args.meter.now c.stop.new.self _ c.in-Err.fault
    (c.stop.ensures.fault ∙ c.fault_of.ensures) c.stop.ensures.entered c.stop.ensures.height (c.in-Err.ensures c.args.context.now.dt)
