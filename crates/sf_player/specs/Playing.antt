-- What a player has played.
use Rattle.std.specs.Prelude.{◌≡◌, ℕ, ◌+◌, ◌*◌, ◌≤◌, Bool, List, [], ◌++◌, length, take, drop, All, Option, Some, None, Result, Ok, Err}
use Rattle.sf_value.specs.Values.{Name}
use Rattle.sf_value.specs.declared.fault.Fault.TheVariants.{Large, Memory as NoMemory}
use Rattle.std.specs.Io.KnownBytes.{Appends}
use Rattle.sf_term.specs.Trees.{Template}
use Rattle.sf_mean.specs.Lives.{Life, time}
use Rattle.sf_mean.specs.Meaning.{Network}
use Rattle.sf_engine.specs.declared.engine.EngineError.{EngineError}
use Rattle.sf_engine.specs.declared.engine.EngineError.TheVariants as error
use Rattle.sf_engine.specs.Histories.{Saves}
use Rattle.sf_engine.specs.Running.{Runs}
use Rattle.sf_engine.specs.Sampling.{IsTooLarge}
use Rattle.sf_lines.specs.Lines.{lines_of}
use Rattle.sf_lines.specs.Limits.{limit_refusal}
use Rattle.sf_lines.specs.Cutting.{pending, line_cut, lines_taken}
use Rattle.sf_lines.specs.Standing.{CutterStands}
use Rattle.sf_lines.specs.Asking.{Asked, HasTimelyValue}
use Rattle.sf_lines.specs.Written.{fault_line, refusal_line}
use Rattle.sf_lines.specs.declared.cutter.Cut.{Cut}
use Rattle.sf_lines.specs.declared.cutter.Cutter.{Cutter}
use Rattle.sf_lines.specs.declared.refusal.LineRefusal.{LineRefusal}
use Rattle.sf_lines.specs.declared.refusal.LineRefusal.TheVariants.{NoSave as NoSaveRefusal, TooManySaves as TooManySavesRefusal, Memory as MemoryRefusal}
use Rattle.sf_player.specs.Scripts.{Moment, at_start, has_begun, life_after, IsSample, sample_faulted, line_refused, goes_on, ends, Asks, Replies, LeadsTo}
use Rattle.sf_player.specs.Telling.{CopiesLife, RunGives}
use Rattle.sf_player.specs.Counting.{WritesFront}
use Rattle.sf_player.specs.declared.end.PlayEnd.{PlayEnd}
use Rattle.sf_player.specs.declared.end.PlayEnd.TheVariants.{Done, Fault as PlayFault, BadLine, WriteFault}
use Rattle.sf_player.specs.declared.player.Player.{Player}
use Rattle.sf_player.specs.declared.stop.Stop.{Stop}
use Rattle.sf_player.specs.Stops.{stop_end, stop_line}

-- how far a cutter has come in its stream
abbrev pub weight : Cutter → ℕ
weight c = 65537 * lines_taken c + length (pending c)

module _ (n : Network) (m : Template) where
  -- What a line that ends a run writes, and how the run ends.
  pub data Halts (now : Moment) (line : List ℕ) : List ℕ → PlayEnd → Type 0 where
    faults : {text : List ℕ} → Replies n m now line text (ends sample_faulted) → Halts now line text PlayFault
    refuses : {text : List ℕ} → Replies n m now line text (ends line_refused) → Halts now line text BadLine
    lacks_memory : {a : Asked} → Asks n m now line a → IsSample a
        → Halts now line (fault_line (time (life_after a now.lived)) NoMemory) PlayFault
    is_too_large : {a : Asked} → Asks n m now line a → IsSample a → IsTooLarge n m (life_after a now.lived)
        → Halts now line (fault_line (time (life_after a now.lived)) Large) PlayFault
    lacks_memory_for_its_value : limit_refusal now.taken line ≡ None → HasTimelyValue (has_begun now.lived) line
        → Halts now line (refusal_line (now.taken + 1) MemoryRefusal) BadLine
    lacks_memory_for_a_copy : {a : Asked} → Asks n m now line a → CopiesLife a now.saved
        → Halts now line (refusal_line (now.taken + 1) MemoryRefusal) BadLine

module _ (probes : Bool) (n : Network) (m : Template) where
  -- So much was read and said, but for a last line. Whatever follows, the run ends with it.
  abbrev pub Halted : List ℕ → List ℕ → Stop → Type 0
  Halted read said s = (left : List ℕ) → RunGives probes n m (lines_of (read ++ left)) (said ++ stop_line s) (stop_end s)

-- the refusal of a line at which the engine keeps nothing, or doesn't return
abbrev pub saving_refusal : EngineError → Option LineRefusal
saving_refusal error.NoSave = Some NoSaveRefusal
saving_refusal error.TooManySaves = Some TooManySavesRefusal
saving_refusal error.Memory = Some MemoryRefusal
saving_refusal (error.Stopped f) = None
saving_refusal error.NotStarted = None
saving_refusal error.Started = None
saving_refusal error.BadStep = None
saving_refusal error.WrongType = None
saving_refusal (error.Fault f) = None

-- a life is within the time that so many lines can take
abbrev pub LastsAtMost : ℕ → Life → Type 0
LastsAtMost taken L = time L ≤ 3600000 * taken

-- so is each one that is kept
abbrev pub SavesLastAtMost : ℕ → Saves → Type 0
SavesLastAtMost taken S = All (λ (s : Name × Life). LastsAtMost taken s.1) S

-- the line of a stop
abbrev pub line_of_stop : Option Stop → List ℕ
line_of_stop None = []
line_of_stop (Some s) = stop_line s

-- Players of engines over functions that are held by name.
module _ {F : Type 0} {H : _} (n : Network) (m : Template) where
  -- A player is at a moment of a run.
  pub record IsAt (p : Player F H) (now : Moment) : Type 0 where
    pub runs : Runs p.engine n m now.lived now.saved
    pub slow : LastsAtMost now.taken now.lived
    pub slow_saves : SavesLastAtMost now.taken now.saved
    pub taken : p.taken ≡ now.taken
    pub probes : p.probes ≡ now.probes

  -- A line was played: its text was gathered, and the player is at the moment behind it.
  pub record PlaysOn (now : Moment) (line : List ℕ) (old new : Player F H) : Type 0 where
    pub text : List ℕ
    pub later : Moment
    pub replies : Replies n m now line text (goes_on later)
    pub at : IsAt new later
    pub said : new.out.items ≡ old.out.items ++ text
    pub cutter : new.cutter ≡ old.cutter

  -- A line ends the run: nothing was gathered.
  pub record EndsRun (now : Moment) (line : List ℕ) (old : Player F H) (s : Stop) (new : Player F H) : Type 0 where
    pub halts : Halts n m now line (stop_line s) (stop_end s)
    pub said : new.out.items ≡ old.out.items

  -- What comes of a line.
  abbrev pub PlaysLine : Moment → List ℕ → Player F H → Option Stop → Player F H → Type 0
  PlaysLine now line old None new = PlaysOn now line old new
  PlaysLine now line old (Some s) new = EndsRun now line old s new

-- The same of a run from its start, which says what probes record, or doesn't.
module _ {F : Type 0} {H : _} (probes : Bool) (n : Network) (m : Template) where
  -- So much was read, and so much written but for what is gathered.
  pub record Played (read written : List ℕ) (p : Player F H) : Type 0 where
    pub lines : List (List ℕ)
    pub now : Moment
    pub stands : CutterStands p.cutter read lines
    pub reaches : LeadsTo n m (at_start probes) lines (written ++ p.out.items) now
    pub at : IsAt n m p now

  -- Bytes were played.
  pub record PlayedMore (read written : List ℕ) (old : Player F H) (bytes : List ℕ) (new : Player F H) : Type 0 where
    pub played : Played (read ++ bytes) written new
    pub further : weight old.cutter + length bytes ≤ weight new.cutter

  -- What comes of a part of a piece.
  abbrev pub PlaysPart : List ℕ → List ℕ → Player F H → List ℕ → Result ℕ Stop → Player F H → Type 0
  PlaysPart read written old piece (Ok used) new = PlayedMore read written old (take used piece) new
  PlaysPart read written old piece (Err s) new = Halted probes n m (read ++ piece) (written ++ new.out.items) s

  -- What comes of a piece.
  abbrev pub Feeds : List ℕ → List ℕ → Player F H → List ℕ → Option Stop → Player F H → Type 0
  Feeds read written old piece None new = PlayedMore read written old piece new
  Feeds read written old piece (Some s) new = Halted probes n m (read ++ piece) (written ++ new.out.items) s

  -- What comes of the end of the input.
  abbrev pub EndsInput : List ℕ → List ℕ → Option Stop → Player F H → Type 0
  EndsInput read written None new = RunGives probes n m (lines_of read) (written ++ new.out.items) Done
  EndsInput read written (Some s) new = RunGives probes n m (lines_of read) ((written ++ new.out.items) ++ stop_line s) (stop_end s)

-- The same of some network.
module _ {F : Type 0} {H : _} where
  -- A player has played something.
  pub record IsPlaying (p : Player F H) : Type 0 where
    pub probes : Bool
    pub n : Network
    pub m : Template
    pub read : List ℕ
    pub written : List ℕ
    pub played : Played probes n m read written p

  -- A player is at a moment, and its cutter completed a line within the limits.
  pub record AwaitsLine (p : Player F H) (cut : Cut) : Type 0 where
    pub n : Network
    pub m : Template
    pub now : Moment
    pub at : IsAt n m p now
    pub within : limit_refusal now.taken (line_cut p.cutter cut) ≡ None

  -- Nothing is gathered any more, and all else is as it was.
  pub record IsCleared (old new : Player F H) : Type 0 where
    pub empty : new.out.items ≡ []
    pub cutter : new.cutter ≡ old.cutter
    pub engine : new.engine ≡ old.engine
    pub taken : new.taken ≡ old.taken
    pub probes : new.probes ≡ old.probes

  -- what is gathered
  abbrev pub gathered : Player F H → List ℕ
  gathered p = p.out.items

  -- So many of the first bytes that were gathered are gone, and all else is as it was.
  pub record IsForgotten (count : ℕ) (old new : Player F H) : Type 0 where
    pub left : new.out.items ≡ drop count old.out.items
    pub cutter : new.cutter ≡ old.cutter
    pub engine : new.engine ≡ old.engine
    pub taken : new.taken ≡ old.taken
    pub probes : new.probes ≡ old.probes

  -- What comes of writing what is gathered and the line of a stop, and how the run ends by it.
  pub data WritesOut (old : Player F H) (before after : Option (List ℕ)) : Option Stop → Option PlayEnd → Player F H → Type 0 where
    runs_on : {new : Player F H} → Appends before after old.out.items → IsCleared old new → WritesOut old before after None None new
    ended : {s : Stop} {new : Player F H} → Appends before after (old.out.items ++ stop_line s) → WritesOut old before after (Some s) (Some (stop_end s)) new
    failed : {o : Option Stop} {new : Player F H} → WritesFront before after (old.out.items ++ line_of_stop o) → WritesOut old before after o (Some WriteFault) new

  -- A player has played nothing.
  pub record IsFresh (p : Player F H) : Type 0 where
    pub probes : Bool
    pub n : Network
    pub m : Template
    pub played : Played probes n m [] [] p
    pub empty : p.out.items ≡ []
