use Rattle.sf_lines.proofs.CutterSteps.{finishes_end, finishes_bytes}
use Rattle.sf_lines.proofs.cutter.Cutter.finish.Goals as goal

pub returns-clause-ends : goal.returns-clause-ends
returns-clause-ends c = λ stream lines s. finishes_end _ _ stream lines _ s c.end.ensures

pub returns-clause-sizes : goal.returns-clause-sizes
returns-clause-sizes c = finishes_bytes _ _ _ c.end.ensures
