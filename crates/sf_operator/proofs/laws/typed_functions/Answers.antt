use Rattle.sf_operator.proofs.Forming.{mapping_yields, folding_yields}
use Rattle.sf_operator.proofs.laws.typed_functions.Goals as goal

pub returns-clause-on_one : goal.returns-clause-on_one
returns-clause-on_one c = mapping_yields

pub returns-clause-on_two : goal.returns-clause-on_two
returns-clause-on_two c = folding_yields
