use Rattle.sf_lines.proofs.Forms.{one_answer}
use Rattle.sf_lines.proofs.laws.one_answer.Goals as goal

pub returns : goal.returns
returns c = one_answer
