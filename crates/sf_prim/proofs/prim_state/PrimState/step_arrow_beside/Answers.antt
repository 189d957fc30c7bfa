use Rattle.sf_prim.proofs.Primitives.{arrow_goes_on}
use Rattle.sf_prim.proofs.prim_state.PrimState.step_arrow_beside.Goals as goal

pub returns : goal.returns
returns g c = λ dt. arrow_goes_on (g.R.Holds.answers c.args.functions.now) c.args.code.now dt _ _ (rw c.deref.ensures at c.apply_beside.ensures)
