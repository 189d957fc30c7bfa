use Rattle.sf_prim.specs.Remembering.{begins}
use Rattle.sf_prim.proofs.Primitives.{memory_exit, accumulated_made, accumulated_fails}
use Rattle.sf_prim.proofs.prim_state.PrimState.accumulated.Goals as goal

pub returns-in_err-value : goal.returns-in_err-value
returns-in_err-value g c = λ e f C K. accumulated_fails _ _ _ _ _ _ c.from_residual.ensures.1 (c.in_err-value.ensures e C)

pub returns-in_err-closure : goal.returns-in_err-closure
returns-in_err-closure g c = λ e f C K. memory_exit _ _ _ c.from_residual-in_err-closure.ensures.1

pub returns-in_err-new : goal.returns-in_err-new
returns-in_err-new g c = λ e f C K. memory_exit _ _ _ c.from_residual-in_err-new.ensures.1

pub returns : goal.returns
returns g c = λ e f C K.
    begins (accumulated_made _ _ _ c.in_ok-new.field-0 _ c.in_ok-new.ensures.ok (c.in_ok-closure.ensures.made (g.R.Holds.answers c.args.functions.now) f K) (c.in_ok-value.ensures e C))
