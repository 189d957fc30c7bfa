-- What a handle holds.
use Rattle.std.specs.Prelude.{ℕ, Bool, List, [], Option, Some, None}
use base.Fml.{Fml, ftrue}
use denote.RawPtr.{Ptr}
use mir.Syntax.{Ty}
use Rattle.std.specs.contracts.impls.GlobalAllocator.TheImpl.{ghosts}
use Rattle.std.specs.Coded.{Coded, coded_option}
use Rattle.std.specs.Box.Ownership.{box_owns}
use Rattle.sf_refusal.specs.Refusals.{OrMemory, refusal_text}
use Rattle.sf_refusal.specs.declared.refusal.Refusal.{Refusal}
use Rattle.sf_term.specs.Trees.{Template}
use Rattle.sf_mean.specs.Meaning.{Network}
use Rattle.sf_accept.specs.Refusals.{IsRefusedFor}
use Rattle.sf_session.specs.Feeding.{IsStarted, IsLive, IsFed, IsPlayed, HasEnded, IsTaken, session_waiting, session_status}
use Rattle.sf_session.specs.declared.session.Session.{Session}
use Rattle.sf_session.specs.contracts.session.Session.{the_row}

-- what tells apart what handles hold
abbrev pub session_coded : Coded (Option Session)
session_coded = coded_option the_row.coded

-- the right to free a block of the C library's heap, which is the same from each hand that holds it
abbrev pub freeable : Ty → Ptr → Fml
freeable = ghosts.dealloc_token (record { memory = record { seal = tt } })

-- the memory of a handle at an address: none, or that of a session there, from the C library
abbrev pub owns_at : Ptr → Option Session → Fml
owns_at p None = ftrue
owns_at p (Some s) = box_owns freeable the_row p s

-- A handle was to be given a run of the network that this text is: it holds one at its start, with the status 0, and nothing
-- is said; or it holds nothing, with the status 5, and what is said is what the text is refused for.
pub data MakesRun (probes : Bool) (net : List ℕ) : ℕ → List ℕ → Option Session → Type 0 where
  started : {s : Session} → IsStarted probes net s → MakesRun probes net 0 [] (Some s)
  refused : {r : Refusal} → OrMemory (IsRefusedFor [] net) r → MakesRun probes net 5 (refusal_text r) None

-- a handle holds a run, which plays a network while it goes on
abbrev pub HoldsRun : Option Session → Type 0
HoldsRun None = ⊥
HoldsRun (Some s) = IsLive s

-- a handle holds a run of this network that was fed so much, and from which so much was taken
abbrev pub HoldsFed : Bool → Network → Template → List ℕ → List ℕ → Option Session → Type 0
HoldsFed probes n m fed given None = ⊥
HoldsFed probes n m fed given (Some s) = IsFed probes n m fed given s

-- a handle holds a run of this network whose whole input was this, and from which so much was taken
abbrev pub HoldsPlayed : Bool → Network → Template → List ℕ → List ℕ → Option Session → Type 0
HoldsPlayed probes n m whole given None = ⊥
HoldsPlayed probes n m whole given (Some s) = IsPlayed probes n m whole given s

-- a handle holds a run that has ended
abbrev pub HoldsEnded : Option Session → Type 0
HoldsEnded None = ⊥
HoldsEnded (Some s) = HasEnded s

-- what waits in a handle
abbrev pub waiting_held : Option Session → List ℕ
waiting_held None = []
waiting_held (Some s) = session_waiting s

-- the status of the run in a handle
abbrev pub status_held : Option Session → ℕ
status_held None = 0
status_held (Some s) = session_status s

-- as much of what waits in a handle as a room takes was written there, and the rest waits
abbrev pub IsTakenByHandle : Option Session → ℕ → List ℕ → Option Session → Type 0
IsTakenByHandle (Some s) count room (Some t) = IsTaken s count room t
IsTakenByHandle None count room o = ⊥
IsTakenByHandle (Some s) count room None = ⊥
