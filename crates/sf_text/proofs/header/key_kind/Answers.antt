use Rattle.sf_text.proofs.Parsing.Placed.{some_more, some_of_one}
use Rattle.sf_text.proofs.header.key_kind.Goals as goal

pub returns-in_ok-symbol-in-Two-clause-behind : goal.returns-in_ok-symbol-in-Two-clause-behind
returns-in_ok-symbol-in-Two-clause-behind c = some_more c.in_ok-keys-in-Two.ensures.behind (some_of_one c.in_ok-symbol-in-Two.ensures.behind)
