-- What is answered where a history is kept or returned to, and what is left.
use Rattle.std.specs.Prelude.{◌≡◌, ◌≢◌, [], Some, None, Result, Ok, Err}
use Rattle.sf_value.specs.Values.{Name}
use Rattle.sf_term.specs.Trees.{Template}
use Rattle.sf_mean.specs.Lives.{Life}
use Rattle.sf_mean.specs.Meaning.{Network}
use Rattle.sf_engine.specs.declared.engine.Engine.{Engine}
use Rattle.sf_engine.specs.declared.engine.EngineError.{EngineError}
use Rattle.sf_engine.specs.declared.engine.EngineError.TheVariants.{NotStarted, NoSave, TooManySaves, Memory}
use Rattle.sf_engine.specs.Histories.{Saves, saved_under, save_kept, MaySave}
use Rattle.sf_engine.specs.Running.{Runs}

-- Engines over functions that are held by name.
module _ {F : Type 0} {h : _} where
  -- A history kept under a name: the refusals in their order, and want of memory, which leave the engine as it was; else
  -- it goes on at that history, and keeps it.
  pub data Saved (n : Network) (m : Template) (L : Life) (S : Saves) (name : Name) : Result (Unit {0}) EngineError → Engine F h → Type 0 where
    saved_nothing : {e : Engine F h}
        → L ≡ [] → Runs e n m L S
        → Saved n m L S name (Err NotStarted) e
    has_no_place : {e : Engine F h}
        → L ≢ [] → ¬ MaySave name S → Runs e n m L S
        → Saved n m L S name (Err TooManySaves) e
    saved_no_memory : {e : Engine F h}
        → L ≢ [] → MaySave name S → Runs e n m L S
        → Saved n m L S name (Err Memory) e
    saves : {e : Engine F h}
        → L ≢ [] → MaySave name S → Runs e n m L (save_kept name L S)
        → Saved n m L S name (Ok tt) e

  -- A return to the history under a name: the refusals in their order, and want of memory, which leave the engine as it
  -- was; else it goes on at that history, which it still keeps.
  pub data Returned (n : Network) (m : Template) (L : Life) (S : Saves) (name : Name) : Result (Unit {0}) EngineError → Engine F h → Type 0 where
    returned_nowhere : {e : Engine F h}
        → L ≡ [] → Runs e n m L S
        → Returned n m L S name (Err NotStarted) e
    has_no_save : {e : Engine F h}
        → L ≢ [] → saved_under name S ≡ None → Runs e n m L S
        → Returned n m L S name (Err NoSave) e
    returned_no_memory : {e : Engine F h} {K : Life}
        → L ≢ [] → saved_under name S ≡ Some K → Runs e n m L S
        → Returned n m L S name (Err Memory) e
    returns_to : {e : Engine F h} {K : Life}
        → L ≢ [] → saved_under name S ≡ Some K → Runs e n m K S
        → Returned n m L S name (Ok tt) e
