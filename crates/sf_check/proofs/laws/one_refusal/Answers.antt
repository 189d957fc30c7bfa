use Rattle.sf_check.proofs.Once.{refuses_once}
use Rattle.sf_check.proofs.laws.one_refusal.Goals as goal

pub returns : goal.returns
returns c = λ fs p b c h k. refuses_once h k
