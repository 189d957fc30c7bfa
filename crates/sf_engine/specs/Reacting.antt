-- Engines with their actuators.
use Rattle.sf_engine.specs.declared.engine.Engine.{Engine}
use Rattle.sf_engine.specs.declared.react.React.{React}

-- Engines over functions that are held by name.
module _ {F A : Type 0} {h : _} where
  abbrev pub engine_of : React F A h → Engine F h
  engine_of r = r.engine

  abbrev pub actuator_of : React F A h → A
  actuator_of r = r.actuator
