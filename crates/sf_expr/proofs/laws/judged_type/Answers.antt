use Rattle.sf_expr.proofs.Judged.{judged_form, judged_if_typed, function_typed, takes_judged}
use Rattle.sf_expr.proofs.laws.judged_type.Goals as goal

pub returns-clause-forms : goal.returns-clause-forms
returns-clause-forms c = judged_form

pub returns-clause-expressions : goal.returns-clause-expressions
returns-clause-expressions c = judged_if_typed

pub returns-clause-functions : goal.returns-clause-functions
returns-clause-functions c = λ x R f at a b fits. (takes_judged x R f at a b, function_typed x R f at a b fits)
