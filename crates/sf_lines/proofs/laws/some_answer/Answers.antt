use Rattle.sf_lines.proofs.Answered.{some_answer}
use Rattle.sf_lines.proofs.laws.some_answer.Goals as goal

pub returns : goal.returns
returns c = some_answer
