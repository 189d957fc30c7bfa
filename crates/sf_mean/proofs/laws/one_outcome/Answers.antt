use Rattle.sf_mean.proofs.Once.{once}
use Rattle.sf_mean.proofs.laws.one_outcome.Goals as goal

pub returns : goal.returns
returns k = λ n P L a b c d A B. once n A B
