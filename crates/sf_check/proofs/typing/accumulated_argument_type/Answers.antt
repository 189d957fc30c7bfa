use Rattle.sf_operator.proofs.Answering.{mismatched, none_found}
use Rattle.sf_check.proofs.typing.accumulated_argument_type.Goals as goal

pub returns-in_err-payload-in-AccumBy : goal.returns-in_err-payload-in-AccumBy
returns-in_err-payload-in-AccumBy c = mismatched _ _ _ c.from_residual.ensures.1 c.in_err-payload-in-AccumBy.ensures.err.1 (rw c.in-AccumBy.is (none_found _ c.in_err-payload-in-AccumBy.ensures.err.0))

pub returns-in_err-payload-in-AccumHoldBy : goal.returns-in_err-payload-in-AccumHoldBy
returns-in_err-payload-in-AccumHoldBy c = mismatched _ _ _ c.from_residual-in_err-payload-in-AccumHoldBy.ensures.1 c.in_err-payload-in-AccumHoldBy.ensures.err.1 (rw c.in-AccumHoldBy.is (none_found _ c.in_err-payload-in-AccumHoldBy.ensures.err.0))
