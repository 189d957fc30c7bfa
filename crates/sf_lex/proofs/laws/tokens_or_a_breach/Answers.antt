use Rattle.sf_lex.proofs.Answered.{answered}
use Rattle.sf_lex.proofs.laws.tokens_or_a_breach.Goals as goal

pub returns : goal.returns
returns c = answered
