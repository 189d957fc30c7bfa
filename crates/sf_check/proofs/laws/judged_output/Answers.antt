use Rattle.sf_check.proofs.Judged.{output_judged, judged_output}
use Rattle.sf_check.proofs.laws.judged_output.Goals as goal

pub returns : goal.returns
returns c = λ p Γ t a b fits. (λ h. output_judged p t h, λ h. judged_output p t Γ a b fits h)
