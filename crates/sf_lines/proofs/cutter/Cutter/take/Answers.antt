use Rattle.sf_lines.proofs.CutterSteps.{takes_cut, takes_bytes, refuses_next}
use Rattle.sf_lines.proofs.cutter.Cutter.take.Goals as goal

pub returns-in-Ok-clause-cuts : goal.returns-in-Ok-clause-cuts
returns-in-Ok-clause-cuts c = λ stream lines s. takes_cut _ _ stream lines _ _ s c.in-Ok.ensures

pub returns-in-Ok-clause-sizes : goal.returns-in-Ok-clause-sizes
returns-in-Ok-clause-sizes c = takes_bytes _ _ _ _ c.in-Ok.ensures

pub returns-in-Err-clause-cuts : goal.returns-in-Err-clause-cuts
returns-in-Err-clause-cuts c = λ stream lines s. refuses_next _ stream lines _ _ s c.in-Err.ensures
