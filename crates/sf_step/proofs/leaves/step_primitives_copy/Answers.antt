use Rattle.sf_begin.specs.Contexts.{context_machine}
use Rattle.sf_state.specs.Standing.{in_sequence}
use Rattle.sf_step.proofs.Costs.{early_memory}
use Rattle.sf_step.proofs.Parts.{pass_exit, failed}
use Rattle.sf_step.proofs.Exits.{own_steps, late_memory}
use Rattle.sf_step.proofs.leaves.step_primitives_copy.Goals as goal

pub returns-in-Err : goal.returns-in-Err
returns-in-Err g c = λ m depth t P L R. early_memory (context_machine g.R.Holds.answers c.args.context.now) t c.stop.ensures.entered c.stop.ensures.height c.stop.ensures.fault

pub returns-in_err-step_both : goal.returns-in_err-step_both
returns-in_err-step_both g c = λ m depth t P L R.
    let μ = context_machine g.R.Holds.answers c.args.context.now in
    pass_exit _ _ c.from_residual.ensures.0 (failed (own_steps μ (in_sequence c.args.node.now.value) (in_sequence c.in-Ok.value) _ _ (λ P x L R. c.in-Ok.ensures μ P x L (rw c.deref.ensures R)) c.in_err-step_both.ensures m depth t P L R))

pub returns-in-Err-new : goal.returns-in-Err-new
returns-in-Err-new g c =
    let μ = context_machine g.R.Holds.answers c.args.context.now in
    late_memory μ (own_steps μ (in_sequence c.args.node.now.value) (in_sequence c.in-Ok.value) _ _ (λ P x L R. c.in-Ok.ensures μ P x L (rw c.deref.ensures R)) c.in_ok-step_both.ensures)
    c.stop-in-Err-new.ensures.entered c.stop-in-Err-new.ensures.height c.stop-in-Err-new.ensures.fault

pub returns : goal.returns
returns g c =
    let μ = context_machine g.R.Holds.answers c.args.context.now in
    rw c.in-Ok-new.ensures.ok (own_steps μ (in_sequence c.args.node.now.value) (in_sequence c.in-Ok.value) _ _ (λ P x L R. c.in-Ok.ensures μ P x L (rw c.deref.ensures R)) c.in_ok-step_both.ensures)
