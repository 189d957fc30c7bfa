use Rattle.sf_text.proofs.Parsing.Placed.{some_more, some_of_one}
use Rattle.sf_text.proofs.header.collection_kind.Goals as goal

pub returns-clause-behind : goal.returns-clause-behind
returns-clause-behind c =
    some_more c.in_ok-keys.ensures.behind (some_more c.in_ok-input.ensures.behind (some_more (some_of_one c.in_ok-symbol.ensures.behind) (some_more c.in_ok-output.ensures.behind (some_of_one c.in_ok-symbol-2.ensures.behind))))
