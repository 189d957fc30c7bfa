use Rattle.sf_prim.specs.Remembering.{begins}
use Rattle.sf_prim.proofs.Primitives.{memory_exit, left_exit}
use Rattle.sf_prim.proofs.prim_state.PrimState.begin.Goals as goal

pub returns-in-Bare : goal.returns-in-Bare
returns-in-Bare g c = λ h. rw c.in-Bare.is (begins (c.begin_bare.ensures _))

pub returns-in-WithValue : goal.returns-in-WithValue
returns-in-WithValue g c = λ h. rw c.in-WithValue.is (c.begin_with_value.ensures _ (rw c.in-WithValue.is at h))

pub returns-in_ok-begin_arrow-in-Arrow : goal.returns-in_ok-begin_arrow-in-Arrow
returns-in_ok-begin_arrow-in-Arrow g c = λ h. rw c.in-Arrow.is (begins (c.in_ok-begin_arrow-in-Arrow.ensures.kept (g.R.Holds.answers c.args.functions.now) _ (rw c.in-Arrow.is at h)))

pub returns-in_err-begin_arrow-in-Arrow : goal.returns-in_err-begin_arrow-in-Arrow
returns-in_err-begin_arrow-in-Arrow g c = λ h. memory_exit _ _ _ (left_exit _ _ _ c.from_residual.ensures.1)
