use Rattle.std.proofs.Common.{refl}
use Rattle.sf_prim.specs.Remembering.{remembers_nothing, remembers_time, remembers_area, remembers_low, remembers_begun, remembers_first_left, remembers_count, remembers_pre}
use Rattle.sf_prim.proofs.prim_state.PrimState.begin_bare.Goals as goal

pub returns-in-Identity : goal.returns-in-Identity
returns-in-Identity c = λ s. rw c.in-Identity.is remembers_nothing

pub returns-in-LocalTime : goal.returns-in-LocalTime
returns-in-LocalTime c = λ s. rw c.in-LocalTime.is (remembers_time refl)

pub returns-in-Integral : goal.returns-in-Integral
returns-in-Integral c = λ s. rw c.in-Integral.is (remembers_area c.born.ensures)

pub returns-in-Edge : goal.returns-in-Edge
returns-in-Edge c = λ s. rw c.in-Edge.is (remembers_low refl)

pub returns-in-NotYet : goal.returns-in-NotYet
returns-in-NotYet c = λ s. rw c.in-NotYet.is (remembers_begun refl)

pub returns-in-Once : goal.returns-in-Once
returns-in-Once c = λ s. rw c.in-Once.is (remembers_first_left refl)

pub returns-in-Count : goal.returns-in-Count
returns-in-Count c = λ s. rw c.in-Count.is (remembers_count refl)

pub returns-in-Pre : goal.returns-in-Pre
returns-in-Pre c = λ s. rw (c.in-Pre.is, c.int.ensures) (remembers_pre refl)
