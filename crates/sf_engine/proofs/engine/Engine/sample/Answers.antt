use Rattle.std.proofs.Common.{refl, ap, Some}
use Rattle.sf_engine.specs.Planned.{main_of_plan}
use Rattle.sf_engine.specs.Sampling.{had_no_memory}
use Rattle.sf_engine.proofs.Going.{goes_to, sampled_value, sampled_fault}
use Rattle.sf_engine.proofs.engine.Engine.sample.Goals as goal

pub returns-in_default : goal.returns-in_default
returns-in_default g c = λ n m L S R H. rw c.stop.ensures.error (had_no_memory c.stop.ensures.stopped)

pub returns-in-Ok-step : goal.returns-in-Ok-step
returns-in-Ok-step g c = λ n m L S R H.
    sampled_value R.plan (c.in-Ok-step.ensures.answers (main_of_plan c.args.self.now.plan) L R.state)
    (λ stands. goes_to R H refl refl refl refl refl refl (ap (λ x. Some x) c.in-Ok.ensures) stands)
    refl
    refl
    refl

pub returns-in-Err : goal.returns-in-Err
returns-in-Err g c = λ n m L S R H.
    rw c.stop-in-Err.ensures.error
    (sampled_fault R.plan (c.in-Err.ensures.answers (main_of_plan c.args.self.now.plan) L R.state) c.stop-in-Err.ensures.stopped)
