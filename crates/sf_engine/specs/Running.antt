-- What an engine stands for.
use Rattle.std.specs.Prelude.{◌≡◌, ◌≢◌, ℕ, List, Option, Some, None, IfSome, Result, Err, String, string_bytes}
use Rattle.std.specs.declared.alloc.Global.{Global}
use Rattle.std.specs.List.{AllZip}
use Rattle.sf_value.specs.Values.{Kind, Data, HasKind}
use Rattle.sf_value.specs.declared.fault.Fault.{Fault}
use Rattle.sf_term.specs.Trees.{Template}
use Rattle.sf_mean.specs.Lives.{Life, time}
use Rattle.sf_mean.specs.Meaning.{Network}
use Rattle.sf_state.specs.Standing.{Stands}
use Rattle.sf_state.specs.Machine.{Machine, machine}
use Rattle.sf_engine.specs.Planned.{main_of_plan, IsRunFor}
use Rattle.sf_engine.specs.declared.engine.save.Save.{Save}
use Rattle.sf_engine.specs.declared.engine.Engine.{Engine}
use Rattle.sf_engine.specs.declared.engine.EngineError.{EngineError}
use Rattle.sf_engine.specs.declared.engine.EngineError.TheVariants.{Stopped}
use Rattle.sf_engine.specs.Histories.{newest_input, IsHistory, CanWait, Saves}

-- What is kept of an engine stands for a history that has begun.
pub record IsSaveOf (μ : Machine) (m : Template) (s : Save) (K : Life) : Type 0 where
  pub state : Stands μ s.state (main_of_plan μ.plan) K
  pub time : s.time ≡ time K
  pub last : newest_input K ≡ Some s.last
  pub history : IsHistory m.input K

-- What is kept, in order, stands for histories under their names.
abbrev pub AreSavesOf : Machine → Template → List (String Global × Save) → Saves → Type 0
AreSavesOf μ m vs S = AllZip (λ v s. (string_bytes v.0 ≡ s.0) × IsSaveOf μ m v.1 s.1) vs S

-- Engines over functions that are held by name.
module _ {F : Type 0} {h : _} where
  -- An engine stands for a history of a network whose `main` is a template, and whose stored functions are those that it
  -- holds; and what it keeps stands for histories, under their names. It is not stopped. Its state stands for the history in its
  -- plan, which means what the network means.
  pub record Runs (e : Engine F h) (n : Network) (m : Template) (L : Life) (S : Saves) : Type 0 where
    pub goes_on : e.stopped ≡ None
    pub plan : IsRunFor (machine (h.answers e.functions) e.plan) n m
    pub input : e.input ≡ m.input
    pub state : Stands (machine (h.answers e.functions) e.plan) e.state (main_of_plan e.plan) L
    pub time : e.time ≡ time L
    pub last : e.last ≡ newest_input L
    pub history : IsHistory m.input L
    pub saves : AreSavesOf (machine (h.answers e.functions) e.plan) m e.saves.entries S

  -- an engine is stopped by a fault
  abbrev pub IsStopped : Engine F h → Fault → Type 0
  IsStopped e f = e.stopped ≡ Some f

  -- a stopped engine answers its fault, and stays stopped
  pub record EngineStops {A : Type 0} (f : Fault) (r : Result A EngineError) (e : Engine F h) : Type 0 where
    pub answer : r ≡ Err (Stopped f)
    pub stays : IsStopped e f

  -- milliseconds since the start
  abbrev pub engine_time : Engine F h → ℕ
  engine_time e = e.time

  -- the type of the inputs
  abbrev pub input_kind : Engine F h → Kind
  input_kind e = e.input

  -- the last input, if there was one
  abbrev pub last_of : Engine F h → Option Data
  last_of e = e.last

  -- An engine that goes on may start with a value: it has had no input, and takes inputs of the value's type.
  pub record MayStart (e : Engine F h) (x : Data) : Type 0 where
    pub goes_on : e.stopped ≡ None
    pub fresh : last_of e ≡ None
    pub typed : HasKind x (input_kind e)

  -- An engine that goes on may step by so much to a value, or with its input unchanged.
  pub record MayStep (e : Engine F h) (d : ℕ) (x : Option Data) : Type 0 where
    pub goes_on : e.stopped ≡ None
    pub begun : last_of e ≢ None
    pub wait : CanWait (engine_time e) d
    pub typed : IfSome x (λ v. HasKind v (input_kind e))
