use Rattle.sf_operator.proofs.Remaining.{divided, operators_divide}
use Rattle.sf_operator.proofs.laws.floor_division.Goals as goal

pub returns-clause-numbers : goal.returns-clause-numbers
returns-clause-numbers c = divided

pub returns-clause-operators : goal.returns-clause-operators
returns-clause-operators c = operators_divide
