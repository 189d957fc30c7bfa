use Rattle.sf_grammar.proofs.Counted.{expression_counted, term_counted, template_counted}
use Rattle.sf_grammar.proofs.laws.one_place_a_token.Goals as goal

pub returns : goal.returns
returns c = record { expressions = expression_counted; terms = term_counted; templates = template_counted }
