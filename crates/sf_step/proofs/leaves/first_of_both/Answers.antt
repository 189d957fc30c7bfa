use Rattle.sf_step.specs.Around.{machine_around, dt_around}
use Rattle.sf_step.proofs.Parts.{pass_exit}
use Rattle.sf_step.proofs.Exits.{ticked_by, tick_fails, first_counted}
use Rattle.sf_step.proofs.leaves.first_of_both.Goals as goal

pub returns-in_err-tick : goal.returns-in_err-tick
returns-in_err-tick g c = λ term B P L A. pass_exit _ _ c.from_residual.ensures.0 (tick_fails (machine_around g.R.Holds.answers c.args.around.now) P _ c.in_err-tick.ensures.ticked)

pub returns : goal.returns
returns g c = λ term B.
    first_counted (machine_around g.R.Holds.answers c.args.around.now) term c.args.around.now.names.now (dt_around c.args.around.now) c.args.value.now (ticked_by c.in_ok-tick.ensures.ticked) _ (c.begin_and_step.ensures _ B)
