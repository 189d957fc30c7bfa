use Rattle.std.proofs.Common.{refl}
use Rattle.sf_step.specs.Sampling.{halved, not_granted}
use Rattle.sf_step.proofs.sample.taken_apart.Goals as goal

pub returns-in-Err : goal.returns-in-Err
returns-in-Err c = not_granted c.stop.ensures.entered c.stop.ensures.height c.stop.ensures.fault

pub returns : goal.returns
returns c = halved {x = c.in-Ok.value.0} {o = c.in-Ok.value.1} refl c.in-Ok.ensures.0 c.in-Ok.ensures.1
