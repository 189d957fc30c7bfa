use Rattle.sf_operator.proofs.Yielding.{unary_yields, operator_yields, decision_yields}
use Rattle.sf_operator.proofs.laws.typed_operators.Goals as goal

pub returns-clause-unary : goal.returns-clause-unary
returns-clause-unary c = unary_yields

pub returns-clause-binary : goal.returns-clause-binary
returns-clause-binary c = operator_yields

pub returns-clause-decided : goal.returns-clause-decided
returns-clause-decided c = decision_yields
