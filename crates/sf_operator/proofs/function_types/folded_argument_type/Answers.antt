use Rattle.sf_operator.proofs.Answering.{mismatched, none_found}
use Rattle.sf_operator.proofs.function_types.folded_argument_type.Goals as goal

pub returns-in_err-payload-in-Merge : goal.returns-in_err-payload-in-Merge
returns-in_err-payload-in-Merge c = mismatched _ _ _ c.from_residual.ensures.1 c.in_err-payload-in-Merge.ensures.err.1 (rw c.in-Merge.is (none_found _ c.in_err-payload-in-Merge.ensures.err.0))
