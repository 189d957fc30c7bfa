use Rattle.sf_expr.proofs.Judged.{answered, function_answered}
use Rattle.sf_expr.proofs.laws.some_type.Goals as goal

pub returns-clause-expressions : goal.returns-clause-expressions
returns-clause-expressions c = answered

pub returns-clause-functions : goal.returns-clause-functions
returns-clause-functions c = function_answered
