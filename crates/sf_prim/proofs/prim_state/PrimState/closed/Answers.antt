use Rattle.sf_prim.specs.Remembering.{remembers_closure}
use Rattle.sf_prim.proofs.prim_state.PrimState.closed.Goals as goal

pub returns : goal.returns
returns g c = λ φ f is. remembers_closure (rw c.in_ok-new.ensures.ok (c.in_ok-closure.ensures.made φ f is))
