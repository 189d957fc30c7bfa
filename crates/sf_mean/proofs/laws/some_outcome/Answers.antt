use Rattle.sf_mean.proofs.Total.{some_outcome}
use Rattle.sf_mean.proofs.laws.some_outcome.Goals as goal

pub returns : goal.returns
returns k = λ n P s L ys N H O. some_outcome n N H s L O
