use Rattle.sf_operator.proofs.Answering.{mismatched, lacks_memory, none_found}
use Rattle.sf_check.proofs.typing.selected_type.Goals as goal

pub returns-in_err-payload : goal.returns-in_err-payload
returns-in_err-payload c = mismatched _ _ _ c.from_residual.ensures.1 c.in_err-payload.ensures.err.1 (none_found _ c.in_err-payload.ensures.err.0)

pub returns-in_err-clone_in : goal.returns-in_err-clone_in
returns-in_err-clone_in c = lacks_memory _ _ _ c.from_residual-in_err-clone_in.ensures.1
