use Rattle.std.proofs.Common.{◌∙◌}
use Rattle.sf_step.proofs.Costs.{early_memory}
use Rattle.sf_step.proofs.Primitives.{probe_steps}
use Rattle.sf_step.proofs.leaves.step_probe.Goals as goal
use Rattle.sf_begin.specs.Contexts.{context_machine}

pub returns-in-Err-clause-answers : goal.returns-in-Err-clause-answers
returns-in-Err-clause-answers g c = λ inside m depth t P L R. early_memory (context_machine g.R.Holds.answers c.args.context.now) t c.stop.ensures.entered c.stop.ensures.height c.stop.ensures.fault

pub returns-in-Err-clone_in-clause-answers : goal.returns-in-Err-clone_in-clause-answers
returns-in-Err-clone_in-clause-answers g c = λ inside m depth t P L R. early_memory (context_machine g.R.Holds.answers c.args.context.now) t c.stop-in-Err-clone_in.ensures.entered c.stop-in-Err-clone_in.ensures.height c.stop-in-Err-clone_in.ensures.fault

pub returns-in-Err-record-clause-answers : goal.returns-in-Err-record-clause-answers
returns-in-Err-record-clause-answers g c = λ inside m depth t P L R. early_memory (context_machine g.R.Holds.answers c.args.context.now) t (c.stop-in-Err-record.ensures.entered ∙ c.record.ensures.entered) (c.stop-in-Err-record.ensures.height ∙ c.record.ensures.height) c.stop-in-Err-record.ensures.fault

pub returns-clause-answers : goal.returns-clause-answers
returns-clause-answers g c = λ inside.
    probe_steps (context_machine g.R.Holds.answers c.args.context.now) c.args.name.now c.in-Ok.value _ _ _ _ _ inside c.in-Ok.ensures.cases c.in-Ok-clone_in.ensures c.record.ensures.entered c.record.ensures.height c.in-Ok-record.ensures.recorded
