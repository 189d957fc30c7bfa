use Rattle.sf_prim.proofs.Primitives.{arrow_follows}
use Rattle.sf_prim.proofs.prim_state.PrimState.clone_in.Goals as goal

pub returns-in_ok-shared-in-Arrow : goal.returns-in_ok-shared-in-Arrow
returns-in_ok-shared-in-Arrow c = λ q scope L k. arrow_follows c.in-Arrow.code _ c.in_ok-shared-in-Arrow.ensures.cases q scope L (rw c.in-Arrow.is at k)
