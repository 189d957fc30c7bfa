use Rattle.sf_grammar.proofs.Texts.{one_text}
use Rattle.sf_grammar.proofs.laws.one_network.Goals as goal

pub returns : goal.returns
returns c = one_text
