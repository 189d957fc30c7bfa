-- What is written for an input, line by line.
use Rattle.std.specs.Prelude.{◌≡◌, ℕ, ◌+◌, Bool, true, false, List, [], ◌∷◌, ◌++◌, Some, None, Ok, Err, ⊤}
use Rattle.std.specs.List.{flat_map}
use Rattle.sf_value.specs.Values.{Name, Data}
use Rattle.sf_value.specs.declared.fault.ValueFault.{ValueFault}
use Rattle.sf_value.specs.declared.fault.Fault.TheVariants.{Value, Large}
use Rattle.sf_term.specs.Trees.{Template}
use Rattle.sf_mean.specs.Lives.{Life, time, closure, empty}
use Rattle.sf_mean.specs.Meaning.{Network, Readings, Outcome, gave, faulted, Cost, Gives}
use Rattle.sf_engine.specs.Histories.{after_start, after_step, Saves, saved_under, save_kept, MaySave}
use Rattle.sf_lines.specs.Limits.{limit_refusal}
use Rattle.sf_lines.specs.Asking.{Asked, nothing, start, advance, save, back, Says}
use Rattle.sf_lines.specs.Written.{sample_line, reading_line, fault_line, refusal_line}
use Rattle.sf_lines.specs.declared.refusal.LineRefusal.{LineRefusal}
use Rattle.sf_lines.specs.declared.refusal.LineRefusal.TheVariants.{NoSave, TooManySaves}

-- Where a run is: how many lines it has taken, what its network has lived, and the lives that are kept under names; and
-- whether it says what probes record.
pub record Moment : Type 0 where
  pub taken : ℕ
  pub lived : Life
  pub saved : Saves
  pub probes : Bool

-- a run before its first line
abbrev pub at_start : Bool → Moment
at_start probes = record { taken = 0; lived = []; saved = []; probes = probes }

-- whether the first sample was
abbrev pub has_begun : Life → Bool
has_begun [] = false
has_begun (s ∷ L) = true

-- whether a line asks for a sample
abbrev pub IsSample : Asked → Type 0
IsSample nothing = ⊥
IsSample (start x) = ⊤
IsSample (advance d x) = ⊤
IsSample (save name) = ⊥
IsSample (back name) = ⊥

-- the life after the sample that a line asks for, where it asks for one
abbrev pub life_after : Asked → Life → Life
life_after nothing L = L
life_after (start x) L = after_start x
life_after (advance d x) L = after_step L d x
life_after (save name) L = L
life_after (back name) L = L

-- what is said of the readings of a sample: the line of each, in order, where they are asked for
abbrev pub readings_said : Bool → Readings → List ℕ
readings_said false r = []
readings_said true r = flat_map (λ q. reading_line q.0 q.1) r

-- the lines of a sample: those of its readings, and then its value's
abbrev pub sample_lines : Bool → ℕ → Data → Readings → List ℕ
sample_lines probes time y r = readings_said probes r ++ sample_line time y

-- How a script ends: with the input, with a sample's fault, or with a refused line.
pub data Ending : Type 0 where
  input_ended : Ending
  sample_faulted : Ending
  line_refused : Ending

-- What a line leads to: the run goes on from a moment, or ends.
pub data Turn : Type 0 where
  goes_on : Moment → Turn
  ends : Ending → Turn

module _ (n : Network) (m : Template) where
  -- What a line asks for at a moment, where the limits and the grammar refuse it nothing.
  pub record Asks (now : Moment) (line : List ℕ) (a : Asked) : Type 0 where
    pub within : limit_refusal now.taken line ≡ None
    pub says : Says (has_begun now.lived) m.input line (Ok a)

  -- What one line gives: its text, and what it leads to.
  pub data Replies (now : Moment) (line : List ℕ) : List ℕ → Turn → Type 0 where
    -- too many lines, or one too long
    past_limits : {r : LineRefusal}
        → limit_refusal now.taken line ≡ Some r
        → Replies now line (refusal_line (now.taken + 1) r) (ends line_refused)
    -- a line that is refused
    refused : {r : LineRefusal}
        → limit_refusal now.taken line ≡ None → Says (has_begun now.lived) m.input line (Err r)
        → Replies now line (refusal_line (now.taken + 1) r) (ends line_refused)
    -- an empty line or a comment
    quiet : Asks now line nothing
        → Replies now line [] (goes_on (record now { taken = now.taken + 1 }))
    -- the life is kept under a name, or there are too many names
    keeps : {name : Name}
        → Asks now line (save name) → MaySave name now.saved
        → Replies now line [] (goes_on (record now { taken = now.taken + 1; saved = save_kept name now.lived now.saved }))
    keeps_no_more : {name : Name}
        → Asks now line (save name) → ¬ MaySave name now.saved
        → Replies now line (refusal_line (now.taken + 1) TooManySaves) (ends line_refused)
    -- the life is the one kept under a name again, or there is none
    returns : {name : Name} {K : Life}
        → Asks now line (back name) → saved_under name now.saved ≡ Some K
        → Replies now line [] (goes_on (record now { taken = now.taken + 1; lived = K }))
    returns_nowhere : {name : Name}
        → Asks now line (back name) → saved_under name now.saved ≡ None
        → Replies now line (refusal_line (now.taken + 1) NoSave) (ends line_refused)
    -- a sample: its readings and its value, its fault, or that it has no outcome
    gives_value : {a : Asked} {L : Life} {y : Data} {r : Readings} {c : Cost}
        → Asks now line a → IsSample a → life_after a now.lived ≡ L
        → Gives n (closure m.body empty) L (gave y r) c
        → Replies now line (sample_lines now.probes (time L) y r) (goes_on (record now { taken = now.taken + 1; lived = L }))
    gives_fault : {a : Asked} {L : Life} {x : ValueFault} {c : Cost}
        → Asks now line a → IsSample a → life_after a now.lived ≡ L
        → Gives n (closure m.body empty) L (faulted x) c
        → Replies now line (fault_line (time L) (Value x)) (ends sample_faulted)
    gives_none : {a : Asked} {L : Life}
        → Asks now line a → IsSample a → life_after a now.lived ≡ L
        → ((o : Outcome) (c : Cost) → Gives n (closure m.body empty) L o c → ⊥)
        → Replies now line (fault_line (time L) Large) (ends sample_faulted)

  -- The text that lines give from a moment on, after which the run goes on from another.
  pub data LeadsTo (now : Moment) : List (List ℕ) → List ℕ → Moment → Type 0 where
    no_line : LeadsTo now [] [] now
    one_more : {lines : List (List ℕ)} {line said text : List ℕ} {between later : Moment}
        → LeadsTo now lines said between → Replies between line text (goes_on later)
        → LeadsTo now (lines ++ line ∷ []) (said ++ text) later

  -- The script of lines from a moment on: all text that they give, and how it ends.
  pub data Script (now : Moment) (lines : List (List ℕ)) : List ℕ → Ending → Type 0 where
    to_the_end : {text : List ℕ} {later : Moment}
        → LeadsTo now lines text later → Script now lines text input_ended
    up_to : {front : List (List ℕ)} {line said text : List ℕ} {between : Moment} {e : Ending} (others : List (List ℕ))
        → LeadsTo now front said between → Replies between line text (ends e) → lines ≡ front ++ line ∷ others
        → Script now lines (said ++ text) e

  -- Two scripts of lines with the same front agree on what it gives: both begin with its text and go on by the scripts
  -- of the lines behind it, or both end within it and are the same.
  pub data Agree (now : Moment) (front others more : List (List ℕ)) : List ℕ → Ending → List ℕ → Ending → Type 0 where
    both_go_on : {said x y : List ℕ} {later : Moment} {d e : Ending}
        → LeadsTo now front said later → Script later others x d → Script later more y e
        → Agree now front others more (said ++ x) d (said ++ y) e
    both_end : {within : List (List ℕ)} {line said text : List ℕ} {between : Moment} {e : Ending} (behind : List (List ℕ))
        → LeadsTo now within said between → Replies between line text (ends e) → front ≡ within ++ line ∷ behind
        → Agree now front others more (said ++ text) e (said ++ text) e
