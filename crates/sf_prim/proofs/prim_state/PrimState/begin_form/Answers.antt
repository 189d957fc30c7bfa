use Rattle.std.proofs.Common.{w64}
use Rattle.std.proofs.lemmas.Int.{to_z-of_z}
use Rattle.sf_prim.specs.Remembering.{begins, remembers_no_event}
use Rattle.sf_prim.proofs.Primitives.{begins_at, selected_keeps, memory_exit, left_exit}
use Rattle.sf_prim.proofs.prim_state.PrimState.begin_form.Goals as goal

pub returns-in-Bare : goal.returns-in-Bare
returns-in-Bare g c = λ h. rw c.in-Bare.is (begins (c.begin_bare.ensures _))

pub returns-in-Never : goal.returns-in-Never
returns-in-Never g c = λ h. rw c.in-Never.is (begins remembers_no_event)

pub returns-in-WithValue : goal.returns-in-WithValue
returns-in-WithValue g c = λ h. rw c.in-WithValue.is (c.begin_with_value.ensures _ (rw c.in-WithValue.is at h))

pub returns-in-Selected : goal.returns-in-Selected
returns-in-Selected g c = λ h. rw c.in-Selected.is (begins (selected_keeps _ _ _ _ _ c.span_of.ensures (to_z-of_z w64 c.in-Selected.count search)))

pub returns-in_ok-begin_arrow-in-Arrow : goal.returns-in_ok-begin_arrow-in-Arrow
returns-in_ok-begin_arrow-in-Arrow g c = λ h. rw c.in-Arrow.is (begins (c.in_ok-begin_arrow-in-Arrow.ensures.kept (g.R.Holds.answers c.args.functions.now) _ (rw c.in-Arrow.is at h)))

pub returns-in_err-begin_arrow-in-Arrow : goal.returns-in_err-begin_arrow-in-Arrow
returns-in_err-begin_arrow-in-Arrow g c = λ h. memory_exit _ _ _ (left_exit _ _ _ c.from_residual-in_err-begin_arrow-in-Arrow.ensures.1)

pub returns-in_err-self-in-Fused : goal.returns-in_err-self-in-Fused
returns-in_err-self-in-Fused g c = λ h. memory_exit _ _ _ (left_exit _ _ _ c.from_residual-in_err-self-in-Fused.ensures.1)

pub returns-in_ok-self-in-Fused : goal.returns-in_ok-self-in-Fused
returns-in_ok-self-in-Fused g c = λ h.
    let made = (rw c.deref.ensures at c.in_ok-self-in-Fused.ensures) (rw c.in-Fused.is at h) (g.R.Holds.answers c.args.functions.now) in
    rw c.in-Fused.is (begins made)
