use Rattle.sf_mean.proofs.Prefix.{prefix}
use Rattle.sf_mean.proofs.laws.prefix_law.Goals as goal

pub returns : goal.returns
returns k = λ n P s L o c A. prefix A
