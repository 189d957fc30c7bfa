use Rattle.sf_prim.specs.declared.prim_state.PrimState.TheVariants.{Arrow}
use Rattle.sf_step.specs.Around.{machine_around, plan_around, dt_around}
use Rattle.sf_step.proofs.Parts.{pass_exit}
use Rattle.sf_step.proofs.First.{first_steps, arrow_begins}
use Rattle.sf_step.proofs.Exits.{ticked_by, tick_fails, first_counted}
use Rattle.sf_step.proofs.leaves.first_map.Goals as goal

pub returns-in_err-tick : goal.returns-in_err-tick
returns-in_err-tick g c = λ q term is B P L A. pass_exit _ _ c.from_residual.ensures.0 (tick_fails (machine_around g.R.Holds.answers c.args.around.now) P _ c.in_err-tick.ensures.ticked)

pub returns : goal.returns
returns g c = λ q term is B.
    let μ = machine_around g.R.Holds.answers c.args.around.now in
    let own = Arrow c.args.code.now in
    first_counted μ term c.args.around.now.names.now (dt_around c.args.around.now) c.args.value.now (ticked_by c.in_ok-tick.ensures.ticked) _
    (first_steps μ q _ c.args.around.now.names.now own own _ c.step_arrow.new.value c.step_arrow.result _ B (arrow_begins _ _ _ q c.args.code.now is c.requires.bare) c.step_arrow.ensures.answers)
