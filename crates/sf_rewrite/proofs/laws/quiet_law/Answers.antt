use Rattle.sf_rewrite.proofs.Theorem.{quiet_gives}
use Rattle.sf_rewrite.proofs.laws.quiet_law.Goals as goal

pub returns : goal.returns
returns k = λ n t e s L h. quiet_gives n t e s L h
