use Rattle.sf_coincidence.proofs.Same.{alike_back}
use Rattle.sf_coincidence.proofs.Main.{same}
use Rattle.sf_coincidence.proofs.laws.coincidence.Goals as goal

pub returns : goal.returns
returns k = λ n P Q L o c A. (λ G. same n A G, λ G. same n (alike_back A) G)
