use Rattle.sf_rewrite.proofs.Optimiser.{optimised}
use Rattle.sf_rewrite.proofs.laws.normal_plan.Goals as goal

pub returns : goal.returns
returns k = λ t h. let o = optimised t h in (o.term, o.plans, o.is)
