use Rattle.sf_text.proofs.Parsing.Placed.{from_some, some_of_one}
use Rattle.sf_text.proofs.header.name_kind.Goals as goal

pub returns-in-Some-clause-behind : goal.returns-in-Some-clause-behind
returns-in-Some-clause-behind c = from_some c.collection_kind.result _ (some_of_one c.in-Some.ensures.1) c.collection_kind.ensures.behind
