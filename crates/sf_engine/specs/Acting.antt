-- What actuators do with samples.
use Rattle.std.specs.Prelude.{◌≡◌, Bool, Result, Ok, Err}
use Rattle.std.specs.declared.dyn_box.DynBox.{DynBox}
use Rattle.sf_engine.specs.declared.engine.Sample.{Sample}
use Rattle.sf_engine.specs.declared.engine.EngineError.{EngineError}

-- What is in a box acts on a sample once: it answers, and the box has what it is then.
pub record ActsInside {X Z : Type 0} {V : X → Type 0} (b : DynBox X Z V) (acts : V b.vtable → Sample → Bool → V b.vtable → Type 0) (s : Sample) (answer : Bool) (c : DynBox X Z V) : Type 0 where
  pub next : V b.vtable
  pub acted : acts b.value s answer next
  pub comes_to : ◌≡◌ {A = (k : X) × V k} (c.vtable, c.value) (b.vtable, next)

-- What is answered where an engine has answered this, and the actuator after it: on a sample the actuator acts once, and
-- its answer is the answer; at an error it does nothing.
pub data Reacts {A : Type 0} (acts : A → Sample → Bool → A → Type 0) (before : A) : Result Sample EngineError → Result Bool EngineError → A → Type 0 where
  reacts : {s : Sample} {answer : Bool} {after : A}
      → acts before s answer after
      → Reacts acts before (Ok s) (Ok answer) after
  does_nothing : {f : EngineError} {after : A}
      → after ≡ before
      → Reacts acts before (Err f) (Err f) after
