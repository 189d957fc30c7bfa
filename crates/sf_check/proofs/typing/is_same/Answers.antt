use Rattle.sf_check.proofs.Judging.{told_same}
use Rattle.sf_check.proofs.typing.is_same.Goals as goal

pub returns : goal.returns
returns c = told_same _ _ _ c.same_type.ensures
