use Rattle.std.proofs.Common.{sym, subst}
use Rattle.sf_prim.specs.declared.prim_state.PrimState.TheVariants.{Arrow}
use Rattle.sf_state.specs.declared.state.State.TheVariants.{Primitive, Unborn}
use Rattle.sf_state.specs.Standing.{closed_over}
use Rattle.sf_value.specs.Values.{pair}
use Rattle.sf_mean.specs.Lives.{step}
use Rattle.sf_meter.specs.Meters.{meter_fault}
use Rattle.sf_step.specs.Answering.{PrimSteps}
use Rattle.sf_step.specs.Sampling.{StateSteps}
use Rattle.sf_step.specs.Around.{machine_around, dt_around}
use Rattle.sf_step.proofs.Parts.{pass_valued, value_back, valued_as}
use Rattle.sf_step.proofs.First.{first_steps, arrow_begins}
use Rattle.sf_step.proofs.Exits.{ticked_by, tick_fails, first_counted}
use Rattle.sf_step.proofs.leaves.first_map_beside.Goals as goal

pub returns-in_err-tick : goal.returns-in_err-tick
returns-in_err-tick g c = λ q term is B P L A. pass_valued _ _ c.from_residual.ensures.0 (tick_fails (machine_around g.R.Holds.answers c.args.around.now) P _ c.in_err-tick.ensures.ticked)

pub returns : goal.returns
returns g c = λ q term is B.
    let μ = machine_around g.R.Holds.answers c.args.around.now in
    let own = Arrow c.args.code.now in
    let names = c.args.around.now.names.now in
    let r = c.step_arrow_beside.result in
    let n = c.step_arrow_beside.new.meter in
    let x = pair c.args.both.input.now c.args.both.given.now in
    let s = step (dt_around c.args.around.now) x in
    subst (λ o. StateSteps μ (Unborn (closed_over term names)) s o c.args.meter.now n c.args.around.now.inside) (valued_as r (Primitive own) (meter_fault n))
    (first_counted μ term names (dt_around c.args.around.now) x (ticked_by c.in_ok-tick.ensures.ticked) _
    (first_steps μ q _ names own own _ (value_back r) r _ B (arrow_begins _ _ _ q c.args.code.now is c.requires.bare)
    (subst (λ o. PrimSteps μ own s o c.tick.new.self n) (sym (valued_as r own (meter_fault n))) c.step_arrow_beside.ensures.answers)))
