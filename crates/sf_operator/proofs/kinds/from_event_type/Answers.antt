use Rattle.std.proofs.Common.{refl}
use Rattle.sf_operator.proofs.Answering.{mismatched, lacks_memory, none_only, none_found, none_after}
use Rattle.sf_operator.proofs.kinds.from_event_type.Goals as goal

pub returns-in_err-payload : goal.returns-in_err-payload
returns-in_err-payload c = mismatched _ _ _ c.from_residual.ensures.1 c.in_err-payload.ensures.err.1 (none_found _ c.in_err-payload.ensures.err.0)

pub returns-in_err-same : goal.returns-in_err-same
returns-in_err-same c = mismatched _ _ _ c.from_residual-in_err-same.ensures.1 c.in_err-same.ensures.err.1 (none_after _ c.in_ok-payload.ensures.ok (none_only c.in_ok-payload.payload.now c.args.right.now _ _ refl c.in_err-same.ensures.err.0))

pub returns-in_err-clone_in : goal.returns-in_err-clone_in
returns-in_err-clone_in c = lacks_memory _ _ _ c.from_residual-in_err-clone_in.ensures.1
