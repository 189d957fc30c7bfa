use Rattle.sf_check.proofs.Judged.{term_answered}
use Rattle.sf_check.proofs.laws.some_answer.Goals as goal

pub returns : goal.returns
returns c = λ p Γ t a names fits. term_answered p Γ t a fits
