use Rattle.std.proofs.Common.{refl}
use Rattle.sf_term.specs.declared.form.Join.TheVariants.{InSequence}
use Rattle.sf_begin.specs.Contexts.{context_machine}
use Rattle.sf_step.proofs.Parts.{pass_exit}
use Rattle.sf_step.proofs.Exits.{join_left_fails, join_last}
use Rattle.sf_step.proofs.leaves.step_both.Goals as goal

pub returns-in_err-count_and_step : goal.returns-in_err-count_and_step
returns-in_err-count_and_step g c = λ m depth t P L R.
    pass_exit _ _ c.from_residual.ensures.0 (join_left_fails (context_machine g.R.Holds.answers c.args.context.now) InSequence _ _ c.args.meter.now c.count_and_step.new.meter c.args.inside c.args.context.now.dt c.args.value.now c.args.value.now refl
    _ c.in_err-count_and_step.ensures m depth t P L R)

pub returns : goal.returns
returns g c =
    join_last (context_machine g.R.Holds.answers c.args.context.now) InSequence _ _ c.args.meter.now c.count_and_step.new.meter c.args.inside c.args.context.now.dt c.args.value.now c.args.value.now refl
    _ c.count_and_step.new.value c.count_and_step.new.value refl c.in_ok-count_and_step.ensures
    c.count_and_step-2.new.meter _ c.count_and_step-2.new.value c.count_and_step-2.new.value c.count_and_step-2.result _ refl c.count_and_step-2.ensures
