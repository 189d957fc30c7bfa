use Rattle.std.proofs.Common.{refl}
use Rattle.sf_operator.proofs.Answering.{mismatched, lacks_memory, none_only}
use Rattle.sf_operator.proofs.function_types.if_same.Goals as goal

pub returns-in_err-same : goal.returns-in_err-same
returns-in_err-same c = mismatched _ _ _ c.from_residual.ensures.1 c.in_err-same.ensures.err.1 (none_only c.args.left.now c.args.right.now _ _ refl c.in_err-same.ensures.err.0)

pub returns-in_err-clone_in : goal.returns-in_err-clone_in
returns-in_err-clone_in c = lacks_memory _ _ _ c.from_residual-in_err-clone_in.ensures.1
