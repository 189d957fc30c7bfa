use Rattle.sf_expr.proofs.Judged.{refused_once, function_refused_once}
use Rattle.sf_expr.proofs.laws.one_refusal.Goals as goal

pub returns-clause-expressions : goal.returns-clause-expressions
returns-clause-expressions c = λ x R i r q h k. refused_once h k

pub returns-clause-functions : goal.returns-clause-functions
returns-clause-functions c = λ x R f a at r q h k. function_refused_once h k
