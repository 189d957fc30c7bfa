use Rattle.sf_mean.proofs.Refrozen.{restarted, started_again}
use Rattle.sf_mean.proofs.laws.restart.Goals as goal

pub returns : goal.returns
returns k = λ n P h g L d e s o c. (λ A. restarted A, λ A. started_again A)
