use Rattle.sf_rewrite.specs.Laws.{unchanged}
use Rattle.sf_rewrite.specs.Normal.{plan_heading}
use Rattle.sf_optimise.proofs.Forms.{ok_then}
use Rattle.sf_optimise.proofs.Made.{makes_held}
use Rattle.sf_optimise.proofs.optimising.with_head.Goals as goal

pub returns-in-Initialized-clause-ok : goal.returns-in-Initialized-clause-ok
returns-in-Initialized-clause-ok c = ok_then c.headed.result (λ a h. makes_held (plan_heading c.requires.part.normal) unchanged h) c.headed.ensures.ok
