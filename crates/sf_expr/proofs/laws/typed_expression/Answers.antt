use Rattle.sf_expr.proofs.Sound.{expression_yields, function_yields}
use Rattle.sf_expr.proofs.laws.typed_expression.Goals as goal

pub returns-clause-expressions : goal.returns-clause-expressions
returns-clause-expressions c = λ R s e t h k. expression_yields h k

pub returns-clause-functions : goal.returns-clause-functions
returns-clause-functions c = λ R s f a b d h k p. function_yields h k p
