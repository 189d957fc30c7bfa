use Rattle.sf_expr.proofs.Judged.{answers_judge}
use Rattle.sf_check.proofs.typing.constant_type.Goals as goal

pub returns : goal.returns
returns c = answers_judge _ _ c.args.value _ c.value_type.ensures
