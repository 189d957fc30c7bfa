-- What starts and steps answer, and what they leave.
use Rattle.std.specs.Prelude.{◌≡◌, ◌≢◌, ℕ, ◌≤◌, [], Option, IfSome, Result, Ok, Err}
use Rattle.sf_value.specs.Values.{Data, HasKind}
use Rattle.sf_value.specs.declared.fault.ValueFault.{ValueFault}
use Rattle.sf_value.specs.declared.fault.Fault.{Fault}
use Rattle.sf_value.specs.declared.fault.Fault.TheVariants.{Value, Large, Memory}
use Rattle.sf_probe.specs.Readings.{probe_readings}
use Rattle.sf_term.specs.Trees.{Template}
use Rattle.sf_mean.specs.Lives.{Life, closure, empty, time}
use Rattle.sf_mean.specs.Meaning.{Network, Outcome, gave, faulted, Cost, count, height, Gives}
use Rattle.sf_engine.specs.declared.engine.Engine.{Engine}
use Rattle.sf_engine.specs.declared.engine.Sample.{Sample}
use Rattle.sf_engine.specs.declared.engine.EngineError.{EngineError}
use Rattle.sf_engine.specs.declared.engine.EngineError.TheVariants.{NotStarted, Started, BadStep, WrongType, Fault as Faulted}
use Rattle.sf_engine.specs.Histories.{after_start, after_step, CanWait, Saves}
use Rattle.sf_engine.specs.Running.{Runs, IsStopped}

-- `main` has this outcome at the end of a history, at a cost
abbrev pub GivesOutcome : Network → Template → Life → Outcome → Cost → Type 0
GivesOutcome n m L o k = Gives n (closure m.body empty) L o k

-- no outcome at the end of a history has a cost within the limits of a sample
abbrev pub IsTooLarge : Network → Template → Life → Type 0
IsTooLarge n m L = (o : Outcome) (k : Cost) → GivesOutcome n m L o k → count k ≤ 1000000 → height k ≤ 1600 → ⊥

-- a sample or its fault, as an engine answers it
abbrev pub answer_of : Result Sample Fault → Result Sample EngineError
answer_of (Ok s) = Ok s
answer_of (Err f) = Err (Faulted f)

-- Engines over functions that are held by name.
module _ {F : Type 0} {h : _} where
  -- The sample at the end of a history, with the engine after it, which keeps what it kept.
  pub data Sampled (n : Network) (m : Template) (L : Life) (S : Saves) : Result Sample Fault → Engine F h → Type 0 where
    gave_value : {s : Sample} {k : Cost} {e : Engine F h}
        → GivesOutcome n m L (gave s.value (probe_readings s.readings)) k → s.time ≡ time L → Runs e n m L S
        → Sampled n m L S (Ok s) e
    had_fault : {x : ValueFault} {k : Cost} {e : Engine F h}
        → GivesOutcome n m L (faulted x) k → IsStopped e (Value x)
        → Sampled n m L S (Err (Value x)) e
    was_large : {e : Engine F h}
        → IsTooLarge n m L → IsStopped e Large
        → Sampled n m L S (Err Large) e
    had_no_memory : {e : Engine F h}
        → IsStopped e Memory
        → Sampled n m L S (Err Memory) e

  -- A start at a history: its refusals in their order, which leave the engine at that history, or the first sample.
  pub data Starts (n : Network) (m : Template) (L : Life) (S : Saves) (x : Data) : Result Sample EngineError → Engine F h → Type 0 where
    was_started : {e : Engine F h}
        → L ≢ [] → Runs e n m L S
        → Starts n m L S x (Err Started) e
    has_wrong_type : {e : Engine F h}
        → L ≡ [] → ¬ HasKind x m.input → Runs e n m L S
        → Starts n m L S x (Err WrongType) e
    starts : {r : Result Sample Fault} {e : Engine F h}
        → L ≡ [] → HasKind x m.input → Sampled n m (after_start x) S r e
        → Starts n m L S x (answer_of r) e

  -- A step at a history: its refusals in their order, which leave the engine at that history, or the next sample.
  pub data Advances (n : Network) (m : Template) (L : Life) (S : Saves) (d : ℕ) (x : Option Data) : Result Sample EngineError → Engine F h → Type 0 where
    was_not_started : {e : Engine F h}
        → L ≡ [] → Runs e n m L S
        → Advances n m L S d x (Err NotStarted) e
    has_bad_wait : {e : Engine F h}
        → L ≢ [] → ¬ CanWait (time L) d → Runs e n m L S
        → Advances n m L S d x (Err BadStep) e
    has_wrong_type : {e : Engine F h}
        → L ≢ [] → CanWait (time L) d → ¬ IfSome x (λ v. HasKind v m.input) → Runs e n m L S
        → Advances n m L S d x (Err WrongType) e
    advances : {r : Result Sample Fault} {e : Engine F h}
        → L ≢ [] → CanWait (time L) d → IfSome x (λ v. HasKind v m.input) → Sampled n m (after_step L d x) S r e
        → Advances n m L S d x (answer_of r) e
