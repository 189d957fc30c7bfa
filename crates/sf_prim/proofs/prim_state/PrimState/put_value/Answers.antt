use Rattle.sf_prim.specs.Remembering.{remembers_value, remembers_previous, remembers_initialized, remembers_first, remembers_first_low, remembers_tag, remembers_initial, remembers_last, remembers_last_before}
use Rattle.std.proofs.Common.{refl}
use Rattle.sf_prim.proofs.prim_state.PrimState.put_value.Goals as goal

pub returns-in-Constant : goal.returns-in-Constant
returns-in-Constant c = λ s e h. rw c.in-Constant.is (remembers_value h)

pub returns-in-Initially : goal.returns-in-Initially
returns-in-Initially c = λ s e h. rw c.in-Initially.is (remembers_initial h)

pub returns-in-InitialPre : goal.returns-in-InitialPre
returns-in-InitialPre c = λ s e h. rw c.in-InitialPre.is (remembers_previous h refl)

pub returns-in-InitializedPre : goal.returns-in-InitializedPre
returns-in-InitializedPre c = λ s e h. rw c.in-InitializedPre.is (remembers_initialized h refl)

pub returns-in-Now : goal.returns-in-Now
returns-in-Now c = λ s e h. rw c.in-Now.is (remembers_first h)

pub returns-in-InitialEdge : goal.returns-in-InitialEdge
returns-in-InitialEdge c = λ s e h. rw c.in-InitialEdge.is (remembers_first_low h c.is_low.ensures)

pub returns-in-EdgeTag : goal.returns-in-EdgeTag
returns-in-EdgeTag c = λ s e h. rw c.in-EdgeTag.is (remembers_tag h refl)

pub returns-in-Hold : goal.returns-in-Hold
returns-in-Hold c = λ s e h. rw c.in-Hold.is (remembers_last h refl)

pub returns-in-DelayedHold : goal.returns-in-DelayedHold
returns-in-DelayedHold c = λ s e h. rw c.in-DelayedHold.is (remembers_last_before h refl)
