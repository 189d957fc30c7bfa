use Rattle.sf_law.specs.Arena.{plan_asked}
use Rattle.sf_law.proofs.Enough.{nothing_listed}
use Rattle.sf_law.proofs.laws.asks_for_none.Goals as goal

pub returns : goal.returns
returns c = λ p only none x. nothing_listed p (plan_asked p) only none x
