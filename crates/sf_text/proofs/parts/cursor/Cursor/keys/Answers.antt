use Rattle.sf_text.proofs.Parsing.Placed.{first_alone}
use Rattle.sf_text.proofs.parts.cursor.Cursor.keys.Goals as goal

pub returns-in-Keyword-Int-clause-behind : goal.returns-in-Keyword-Int-clause-behind
returns-in-Keyword-Int-clause-behind c = first_alone c.in_ok-token.ensures.placed tt

pub returns-in-Keyword-Text-clause-behind : goal.returns-in-Keyword-Text-clause-behind
returns-in-Keyword-Text-clause-behind c = first_alone c.in_ok-token.ensures.placed tt
