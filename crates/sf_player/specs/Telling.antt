-- What was written when a run ended.
use Rattle.std.specs.Prelude.{◌≡◌, ◌≢◌, ℕ, ◌+◌, Bool, List, [], ◌∷◌, ◌++◌, Option, Some, None}
use Rattle.std.specs.Io.KnownBytes.{Keeps, Consumes, Appends}
use Rattle.sf_value.specs.declared.fault.Fault.TheVariants.{Large, Memory as NoMemory}
use Rattle.sf_refusal.specs.declared.refusal.Refusal.{Refusal}
use Rattle.sf_refusal.specs.Refusals.{OrMemory}
use Rattle.sf_func.specs.Registries.{TypesByName, AnswersByName}
use Rattle.sf_term.specs.Trees.{Template, Templates}
use Rattle.sf_mean.specs.Lives.{time}
use Rattle.sf_mean.specs.Meaning.{Network}
use Rattle.sf_mean.specs.Networks.{main_of}
use Rattle.sf_mean.specs.Typing.{Accepted}
use Rattle.sf_engine.specs.Histories.{Saves, saved_under, MaySave}
use Rattle.sf_engine.specs.Sampling.{IsTooLarge}
use Rattle.sf_text.specs.Spelling.{IsNetworkText}
use Rattle.sf_lines.specs.Lines.{Splits, lines_of}
use Rattle.sf_lines.specs.Asking.{Asked, nothing, start, advance, save, back, HasTimelyValue}
use Rattle.sf_lines.specs.Limits.{limit_refusal}
use Rattle.sf_lines.specs.Written.{fault_line, refusal_line}
use Rattle.sf_lines.specs.declared.refusal.LineRefusal.TheVariants.{Memory as MemoryRefusal}
use Rattle.sf_player.specs.Scripts.{Moment, at_start, has_begun, life_after, IsSample, input_ended, sample_faulted, line_refused, Asks, LeadsTo, Script}
use Rattle.sf_player.specs.declared.end.PlayEnd.{PlayEnd}
use Rattle.sf_player.specs.declared.end.PlayEnd.TheVariants.{Done, Fault, BadLine, Network as NetworkRefused, ReadFault, WriteFault}
use Rattle.sf_accept.specs.Refusals.{IsRefusedFor}

-- whether a line asks for a copy of a life: to keep one that may be kept, or to return to one that is kept
abbrev pub CopiesLife : Asked → Saves → Type 0
CopiesLife nothing S = ⊥
CopiesLife (start x) S = ⊥
CopiesLife (advance d x) S = ⊥
CopiesLife (save name) S = MaySave name S
CopiesLife (back name) S = saved_under name S ≢ None

-- whether what probes record is said, and the network with its `main`
module _ (probes : Bool) (n : Network) (m : Template) where
  -- All that is written for lines, and how the run ends: their script; or, where memory ran out for a sample, for the value
  -- of a line or for a copy of a life, or a sample was too large, what the lines before give and then the line that says so.
  pub data RunGives (lines : List (List ℕ)) : List ℕ → PlayEnd → Type 0 where
    with_the_input : {text : List ℕ} → Script n m (at_start probes) lines text input_ended → RunGives lines text Done
    at_a_fault : {text : List ℕ} → Script n m (at_start probes) lines text sample_faulted → RunGives lines text Fault
    at_a_refusal : {text : List ℕ} → Script n m (at_start probes) lines text line_refused → RunGives lines text BadLine
    without_memory : {front : List (List ℕ)} {line said : List ℕ} {between : Moment} {a : Asked} (others : List (List ℕ))
        → LeadsTo n m (at_start probes) front said between → lines ≡ front ++ line ∷ others → Asks n m between line a → IsSample a
        → RunGives lines (said ++ fault_line (time (life_after a between.lived)) NoMemory) Fault
    too_large : {front : List (List ℕ)} {line said : List ℕ} {between : Moment} {a : Asked} (others : List (List ℕ))
        → LeadsTo n m (at_start probes) front said between → lines ≡ front ++ line ∷ others → Asks n m between line a → IsSample a
        → IsTooLarge n m (life_after a between.lived)
        → RunGives lines (said ++ fault_line (time (life_after a between.lived)) Large) Fault
    without_memory_for_a_value : {front : List (List ℕ)} {line said : List ℕ} {between : Moment} (others : List (List ℕ))
        → LeadsTo n m (at_start probes) front said between → lines ≡ front ++ line ∷ others
        → limit_refusal between.taken line ≡ None → HasTimelyValue (has_begun between.lived) line
        → RunGives lines (said ++ refusal_line (between.taken + 1) MemoryRefusal) BadLine
    without_memory_for_a_copy : {front : List (List ℕ)} {line said : List ℕ} {between : Moment} {a : Asked} (others : List (List ℕ))
        → LeadsTo n m (at_start probes) front said between → lines ≡ front ++ line ∷ others → Asks n m between line a → CopiesLife a between.saved
        → RunGives lines (said ++ refusal_line (between.taken + 1) MemoryRefusal) BadLine

  -- What can have been given to the writer: what a front of the lines gives, or all that is written.
  pub data CanBeGiven (lines : List (List ℕ)) : List ℕ → Type 0 where
    so_far : {front : List (List ℕ)} {said : List ℕ} {between : Moment} (others : List (List ℕ))
        → LeadsTo n m (at_start probes) front said between → lines ≡ front ++ others → CanBeGiven lines said
    in_all : {said : List ℕ} {e : PlayEnd} → RunGives lines said e → CanBeGiven lines said

  -- What was said of an input of which so much was read and so much is left. After a read fault it is what the complete
  -- lines give; after a write fault it is the front of what was to be written. Where there was no memory to begin with, before
  -- anything was read, it is only the line that says so.
  pub data Tells (read left said : List ℕ) : PlayEnd → Type 0 where
    by_its_end : {e : PlayEnd} → RunGives (lines_of (read ++ left)) said e → Tells read left said e
    by_a_read_fault : {complete : List (List ℕ)} {unfinished : List ℕ} {later : Moment}
        → Splits read complete unfinished → LeadsTo n m (at_start probes) complete said later → Tells read left said ReadFault
    by_a_write_fault : (more : List ℕ) → CanBeGiven (lines_of (read ++ left)) (said ++ more) → Tells read left said WriteFault
    before_any_line : read ≡ [] → said ≡ refusal_line 1 MemoryRefusal → Tells read left said BadLine
    by_a_write_fault_before_any_line : (more : List ℕ) → read ≡ [] → said ++ more ≡ refusal_line 1 MemoryRefusal → Tells read left said WriteFault

  -- What a run read and wrote, where the reader and the writer tell their bytes.
  pub record Told (before after held holds : Option (List ℕ)) (e : PlayEnd) : Type 0 where
    pub read : List ℕ
    pub said : List ℕ
    pub consumed : Consumes before after read
    pub written : Appends held holds said
    pub tells : (left : List ℕ) → after ≡ Some left → Tells read left said e

-- What `play` does with or without readings, with a network text, a reader and a writer, and stored functions of these types that answer this: it
-- refuses the network and touches neither, or the text is a network that is accepted with these types, and what was written
-- is told by its meaning, with these answers.
pub data Plays (probes : Bool) (types : TypesByName) (answers : AnswersByName) (net : List ℕ) (before after held holds : Option (List ℕ)) : PlayEnd → Type 0 where
  refuses : {r : Refusal} → OrMemory (IsRefusedFor types net) r → Keeps before after → Keeps held holds → Plays probes types answers net before after held holds (NetworkRefused r)
  plays : {p : Templates} {m : Template} {e : PlayEnd}
      → IsNetworkText net p → Accepted types p → main_of p ≡ Some m
      → Told probes (record { templates = p; functions = answers }) m before after held holds e → Plays probes types answers net before after held holds e
