use Rattle.std.proofs.Common.{w64}
use Rattle.std.proofs.lemmas.Int.{to_z-of_z}
use Rattle.sf_prim.specs.Remembering.{begins}
use Rattle.sf_prim.proofs.Primitives.{begins_at, timed_exit, memory_exit}
use Rattle.sf_prim.proofs.prim_state.PrimState.waiting.Goals as goal

pub returns-in_err-value : goal.returns-in_err-value
returns-in_err-value g c = λ e C. timed_exit _ _ _ _ _ _ c.from_residual.ensures.1 (c.in_err-value.ensures e C)

pub returns-in_err-timed : goal.returns-in_err-timed
returns-in_err-timed g c = λ e C. memory_exit _ _ _ c.from_residual-in_err-timed.ensures.1

pub returns : goal.returns
returns g c = λ e C. begins_at _ _ _ _ (to_z-of_z w64 c.args.time search) (begins (c.in_ok-timed.ensures _ e (c.in_ok-value.ensures e C)))
