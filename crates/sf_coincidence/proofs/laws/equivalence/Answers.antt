use Rattle.sf_coincidence.proofs.Same.{alike_itself, alike_back, alike_through}
use Rattle.sf_coincidence.proofs.laws.equivalence.Goals as goal

pub returns-clause-itself : goal.returns-clause-itself
returns-clause-itself k = λ P. alike_itself P

pub returns-clause-back : goal.returns-clause-back
returns-clause-back k = λ P Q A. alike_back A

pub returns-clause-through : goal.returns-clause-through
returns-clause-through k = λ P Q R A B. alike_through A B
