use Rattle.sf_grammar.proofs.Answered.{answered}
use Rattle.sf_grammar.proofs.laws.a_network_or_a_breach.Goals as goal

pub returns : goal.returns
returns c = answered
