use Rattle.sf_engine.proofs.Boxed.{acts_inside}
use Rattle.sf_engine.proofs.react.BoxDynActuatorActuator.act.Goals as goal

pub returns : goal.returns
returns g c = acts_inside (λ a. (goal.Actuator-dyn g a).acts) _ _ _ _ _ c.as_mut.ensures.value.1 c.act.ensures
