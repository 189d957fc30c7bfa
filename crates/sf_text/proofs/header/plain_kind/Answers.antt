use Rattle.sf_text.proofs.Parsing.Placed.{some_more, some_of_one}
use Rattle.sf_text.proofs.header.plain_kind.Goals as goal

pub returns-in_ok-output-in-Some-clause-behind : goal.returns-in_ok-output-in-Some-clause-behind
returns-in_ok-output-in-Some-clause-behind c = some_more c.in_ok-first.ensures.behind (some_more (some_of_one c.in-Some.ensures.1) c.in_ok-output-in-Some.ensures.behind)
