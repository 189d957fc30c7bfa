use Rattle.std.proofs.Common.{sym, subst}
use Rattle.sf_prim.specs.declared.prim_state.PrimState.TheVariants.{Arrow}
use Rattle.sf_state.specs.declared.state.State.TheVariants.{Primitive}
use Rattle.sf_value.specs.Values.{pair}
use Rattle.sf_mean.specs.Lives.{step}
use Rattle.sf_meter.specs.Meters.{meter_fault}
use Rattle.sf_begin.specs.Contexts.{context_machine}
use Rattle.sf_step.specs.Answering.{PrimSteps}
use Rattle.sf_step.specs.Sampling.{StateSteps}
use Rattle.sf_step.proofs.Parts.{pass_valued, value_back, valued_as}
use Rattle.sf_step.proofs.Exits.{ticked_by, tick_fails, counted_steps, primitive_is, primitive_counted}
use Rattle.sf_step.proofs.leaves.count_and_map_beside.Goals as goal

pub returns-in_err-tick : goal.returns-in_err-tick
returns-in_err-tick g c = λ P L A. pass_valued _ _ c.from_residual.ensures.0 (tick_fails (context_machine g.R.Holds.answers c.args.context.now) P _ c.in_err-tick.ensures.ticked)

pub returns : goal.returns
returns g c =
    let μ = context_machine g.R.Holds.answers c.args.context.now in
    let own = Arrow c.args.code.now in
    let r = c.step_arrow_beside.result in
    let n = c.step_arrow_beside.new.meter in
    let s = step c.args.context.now.dt (pair c.args.both.input.now c.args.both.given.now) in
    subst (λ q. StateSteps μ (Primitive own) s q c.args.meter.now n c.args.inside) (valued_as r (Primitive own) (meter_fault n))
    (counted_steps μ _ _ _ (ticked_by c.in_ok-tick.ensures.ticked) (primitive_is μ own)
    (primitive_counted μ own own _ (value_back r) r _ (subst (λ q. PrimSteps μ own s q c.tick.new.self n) (sym (valued_as r own (meter_fault n))) c.step_arrow_beside.ensures.answers)))
