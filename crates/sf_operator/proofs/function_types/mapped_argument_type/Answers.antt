use Rattle.sf_operator.proofs.Answering.{lacks_memory}
use Rattle.sf_operator.proofs.function_types.mapped_argument_type.Goals as goal

pub returns-in_err-clone_in-in-Let : goal.returns-in_err-clone_in-in-Let
returns-in_err-clone_in-in-Let c = lacks_memory _ _ _ c.from_residual.ensures.1
