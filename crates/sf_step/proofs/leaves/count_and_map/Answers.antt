use Rattle.sf_prim.specs.declared.prim_state.PrimState.TheVariants.{Arrow}
use Rattle.sf_begin.specs.Contexts.{context_machine}
use Rattle.sf_step.proofs.Parts.{pass_exit}
use Rattle.sf_step.proofs.Exits.{ticked_by, tick_fails, counted_steps, primitive_is, primitive_counted}
use Rattle.sf_step.proofs.leaves.count_and_map.Goals as goal

pub returns-in_err-tick : goal.returns-in_err-tick
returns-in_err-tick g c = λ P L A. pass_exit _ _ c.from_residual.ensures.0 (tick_fails (context_machine g.R.Holds.answers c.args.context.now) P _ c.in_err-tick.ensures.ticked)

pub returns : goal.returns
returns g c =
    let μ = context_machine g.R.Holds.answers c.args.context.now in
    let own = Arrow c.args.code.now in
    counted_steps μ _ _ _ (ticked_by c.in_ok-tick.ensures.ticked) (primitive_is μ own)
    (primitive_counted μ own own _ c.step_arrow.new.value c.step_arrow.result _ c.step_arrow.ensures.answers)
