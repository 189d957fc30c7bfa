use Rattle.sf_coincidence.proofs.Same.{alike_restricted, alike_back}
use Rattle.sf_coincidence.proofs.Main.{same}
use Rattle.sf_coincidence.proofs.laws.only_mentioned.Goals as goal

pub returns : goal.returns
returns k = λ n t e wanted L o c h. let A = alike_restricted t e wanted h in (λ G. same n A G, λ G. same n (alike_back A) G)
