use Rattle.sf_prim.specs.declared.prim_state.PrimState.TheVariants.{Arrow}
use Rattle.sf_prim.proofs.Primitives.{arrow_follows}
use Rattle.sf_state.proofs.Copies.{primitive_follows}
use Rattle.sf_step.specs.Answering.{answers}
use Rattle.sf_step.specs.Around.{machine_around}
use Rattle.sf_step.proofs.Parts.{pass_valued, answered, failed}
use Rattle.sf_step.proofs.Exits.{first_memory}
use Rattle.sf_step.proofs.leaves.first_arrow.Goals as goal

pub returns-in-Err : goal.returns-in-Err
returns-in-Err g c = λ term I. first_memory (machine_around g.R.Holds.answers c.args.around.now) c.stop.ensures.entered c.stop.ensures.height c.stop.ensures.fault

pub returns-in_err-value : goal.returns-in_err-value
returns-in_err-value g c = λ term I P L A. pass_valued _ _ c.from_residual.ensures.0 (failed (c.in_err-value.ensures I.primitive term I.coded I.built P L A))

pub returns : goal.returns
returns g c = λ term I P L A.
    let w = answered (c.in_ok-value.ensures I.primitive term I.coded I.built P L A) in
    let own = arrow_follows c.args.code.now c.in-Ok.value c.in-Ok.ensures.cases in
    rw c.put.ensures (answers w.given w.spent (primitive_follows (machine_around g.R.Holds.answers c.args.around.now) (Arrow c.args.code.now) (Arrow c.in-Ok.value) own _ _ w.holds))
