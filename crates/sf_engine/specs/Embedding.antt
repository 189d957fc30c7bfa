-- What an engine answers that takes a list of steps, and what it leaves.
use Rattle.std.specs.Prelude.{◌≡◌, ◌≢◌, ℕ, List, [], ◌∷◌, Option, Some, None, IfSome, Result, Ok, Err}
use Rattle.sf_value.specs.Values.{Data, HasKind}
use Rattle.sf_probe.specs.Readings.{probe_readings}
use Rattle.sf_term.specs.Trees.{Template}
use Rattle.sf_mean.specs.Lives.{Life, time}
use Rattle.sf_mean.specs.Meaning.{Network, gave, Cost}
use Rattle.sf_engine.specs.declared.engine.Engine.{Engine}
use Rattle.sf_engine.specs.declared.engine.Sample.{Sample}
use Rattle.sf_engine.specs.declared.engine.EngineError.{EngineError}
use Rattle.sf_engine.specs.declared.engine.EngineError.TheVariants.{Memory}
use Rattle.sf_engine.specs.declared.engine.embed.Embedded.{Embedded}
use Rattle.sf_engine.specs.Histories.{after_start, after_step, CanWait, Saves}
use Rattle.sf_engine.specs.Running.{Runs}
use Rattle.sf_engine.specs.Sampling.{GivesOutcome, Starts, Advances}

-- a sample is that at the end of a history
pub record IsLastSample (n : Network) (m : Template) (L : Life) (s : Sample) : Type 0 where
  pub cost : Cost
  pub given : GivesOutcome n m L (gave s.value (probe_readings s.readings)) cost
  pub at : s.time ≡ time L

-- Engines over functions that are held by name.
module _ {F : Type 0} {h : _} where
  -- The samples of steps after a history, each at the end of its own, and the error of the first step that has none: it ends
  -- them, and no step behind it is taken. The engine is where the last step that was taken leaves it.
  pub data Follows (n : Network) (m : Template) (S : Saves) : Life → List (ℕ × Option Data) → List Sample → Option EngineError → Engine F h → Type 0 where
    followed : {L : Life} {e : Engine F h}
        → Runs e n m L S
        → Follows n m S L [] [] None e
    stopped_at : {L : Life} {d : ℕ} {x : Option Data} {steps : List (ℕ × Option Data)} {f : EngineError} {e : Engine F h}
        → Advances n m L S d x (Err f) e
        → Follows n m S L ((d, x) ∷ steps) [] (Some f) e
    follows : {L : Life} {d : ℕ} {x : Option Data} {steps : List (ℕ × Option Data)} {s : Sample} {ss : List Sample} {end : Option EngineError} {e : Engine F h}
        → L ≢ [] → CanWait (time L) d → IfSome x (λ v. HasKind v m.input) → IsLastSample n m (after_step L d x) s
        → Follows n m S (after_step L d x) steps ss end e
        → Follows n m S L ((d, x) ∷ steps) (s ∷ ss) end e

  -- A start with steps after it: what refuses the start, or its fault; want of memory, before the start; or its sample, with
  -- those of the steps.
  pub data Embeds (n : Network) (m : Template) (L : Life) (S : Saves) (x : Data) (steps : List (ℕ × Option Data)) : Result Embedded EngineError → Engine F h → Type 0 where
    embeds_nothing : {f : EngineError} {e : Engine F h}
        → Starts n m L S x (Err f) e
        → Embeds n m L S x steps (Err f) e
    embedded_no_memory : {e : Engine F h}
        → L ≡ [] → HasKind x m.input → Runs e n m L S
        → Embeds n m L S x steps (Err Memory) e
    embeds : {r : Embedded} {s : Sample} {ss : List Sample} {e : Engine F h}
        → L ≡ [] → HasKind x m.input → IsLastSample n m (after_start x) s → r.samples.items ≡ s ∷ ss
        → Follows n m S (after_start x) steps ss r.ended e
        → Embeds n m L S x steps (Ok r) e
