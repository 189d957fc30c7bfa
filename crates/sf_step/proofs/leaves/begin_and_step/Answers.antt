use Rattle.std.proofs.Common.{◌∙◌}
use Rattle.sf_step.proofs.First.{first_steps, first_fails}
use Rattle.sf_step.proofs.leaves.begin_and_step.Goals as goal
use Rattle.sf_begin.specs.Contexts.{context_machine}

pub returns-in-Ok : goal.returns-in-Ok
returns-in-Ok g c = λ t B.
    first_steps (context_machine g.R.Holds.answers c.args.context.now) c.args.primitive.now t c.args.names.now c.begin.new.self c.step_prim.new.prim _ c.step_prim.new.value c.step_prim.result _ B
    c.in-Ok.ensures c.step_prim.ensures.answers

pub returns-in-Err : goal.returns-in-Err
returns-in-Err g c = λ t B.
    first_fails (context_machine g.R.Holds.answers c.args.context.now) c.args.primitive.now t c.args.names.now c.in-Err.fault _ c.args.context.now.dt c.args.value.now (c.stop.ensures.fault ∙ c.fault_of.ensures) c.stop.ensures.entered c.stop.ensures.height B c.in-Err.ensures
