-- Templates by their places, and the calls that lead from one to another.
use Rattle.std.specs.Prelude.{◌≡◌, ◌≢◌, ℕ, ◌<◌, List, [], ◌∷◌, ◌++◌, All, Bool, true, false, not, count_by, Option, Some, length, slice_get, slice_index_or, slice_set, bytes_eq, position, option_map, filter_map}
use Rattle.std.specs.List.{IsAmong}
use Rattle.sf_value.specs.Values.{Name}
use Rattle.sf_term.specs.declared.node.TermId.{TermId}
use Rattle.sf_term.specs.declared.node.Argument.{Argument}
use Rattle.sf_term.specs.declared.collection.CollExpr.{CollExpr}
use Rattle.sf_term.specs.declared.program.Program.{Program}
use Rattle.sf_term.specs.Headers.{Header}
use Rattle.sf_term.specs.Arena.{headers_of}
use Rattle.sf_reach.specs.declared.graph.Call.{Call}
use Rattle.sf_reach.specs.Names.{program_names}
use Rattle.sf_reach.specs.Order.{PlacedCall, CallsInOrder, MemberCalls, ArgumentCalls}

-- the calls in each template
abbrev pub Graph : Type 0
Graph = List (List Call)

-- the calls in the template at a place
abbrev pub calls_at : Graph → ℕ → List Call
calls_at g i = slice_index_or g i []

-- a call by the place of what it calls among names, if it is there
abbrev pub found_call : List Name → PlacedCall → Option Call
found_call ns c = option_map (λ (i : ℕ). record { callee = i; spot = c.spot }) (position (bytes_eq c.name) ns)

-- the calls of what is there
abbrev pub found_calls : List Name → List PlacedCall → List Call
found_calls ns cs = filter_map (found_call ns) cs

-- the calls in a term are put behind others
abbrev pub AddsCalls : Program → TermId → (old new : List Call) → Type 0
AddsCalls p t old new = (cs : List PlacedCall) × CallsInOrder p t cs × (new ≡ old ++ found_calls (program_names p) cs)

-- those in a collection are
abbrev pub AddsMemberCalls : Program → CollExpr → (old new : List Call) → Type 0
AddsMemberCalls p c old new = (cs : List PlacedCall) × MemberCalls p c cs × (new ≡ old ++ found_calls (program_names p) cs)

-- those in arguments are
abbrev pub AddsArgumentCalls : Program → List Argument → (old new : List Call) → Type 0
AddsArgumentCalls p vs old new = (cs : List PlacedCall) × ArgumentCalls p vs cs × (new ≡ old ++ found_calls (program_names p) cs)

-- A graph has the calls in each template of a program.
pub record IsGraphOf (p : Program) (g : Graph) : Type 0 where
  pub long : length g ≡ length (headers_of p)
  pub calls : (i : ℕ) (h : Header) → slice_get (headers_of p) i ≡ Some h → AddsCalls p h.body [] (calls_at g i)

-- all that is called is there
abbrev pub StaysWithin : Graph → Type 0
StaysWithin g = (i : ℕ) → All (λ (c : Call). c.callee < length g) (calls_at g i)

-- a call in the template at a place is of that at another
abbrev pub Leads : Graph → ℕ → ℕ → Type 0
Leads g i j = (c : Call) × IsAmong (calls_at g i) c × (c.callee ≡ j)

-- Calls lead from the template at a place to that at another, one after another.
pub data LeadsOn (g : Graph) : ℕ → ℕ → Type 0 where
  there : {i : ℕ} → LeadsOn g i i
  onward : {i j k : ℕ} → Leads g i j → LeadsOn g j k → LeadsOn g i k

-- From the template at a place, calls lead on for a while only, whichever are followed.
pub data Subsides (g : Graph) : ℕ → Type 0 where
  subsides : {i : ℕ} → ((j : ℕ) → Leads g i j → Subsides g j) → Subsides g i

-- whether a place is marked
abbrev pub marked : List Bool → ℕ → Bool
marked bs i = slice_index_or bs i false

-- from each place that is marked, calls lead on for a while only
abbrev pub AreSettled : Graph → List Bool → Type 0
AreSettled g bs = (i : ℕ) → marked bs i ≡ true → Subsides g i

-- the places that are marked don't have this one among them, and calls lead from them to such places alone
abbrev pub LeadElsewhere : Graph → ℕ → List Bool → Type 0
LeadElsewhere g to bs = (i : ℕ) → marked bs i ≡ true → (i ≢ to) × All (λ (c : Call). marked bs c.callee ≡ true) (calls_at g i)

-- how many places are not marked
abbrev pub unmarked : List Bool → ℕ
unmarked bs = count_by not bs

-- A place is marked and put behind others, if it was not marked.
pub data Enters (i : ℕ) : (old new : List Bool) (before after : List ℕ) → Type 0 where
  known : {bs : List Bool} {ls : List ℕ} → marked bs i ≡ true → Enters i bs bs ls ls
  entered : {bs : List Bool} {ls : List ℕ} → marked bs i ≡ false → Enters i bs (slice_set bs i true) ls (ls ++ i ∷ [])
