use Rattle.sf_prim.specs.Remembering.{begins}
use Rattle.sf_prim.proofs.Primitives.{begins_exit, left_exit}
use Rattle.sf_prim.proofs.prim_state.PrimState.begin_with_value.Goals as goal

pub returns-in_err-value : goal.returns-in_err-value
returns-in_err-value g c = λ e C. begins_exit _ _ _ _ _ (left_exit _ _ _ c.from_residual.ensures.1) (c.in_err-value.ensures e C)

pub returns : goal.returns
returns g c = λ e C. begins (c.put_value.ensures _ e (c.in_ok-value.ensures e C))
