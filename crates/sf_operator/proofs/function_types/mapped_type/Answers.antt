use Rattle.sf_value.specs.Values.{bool_kind}
use Rattle.sf_operator.proofs.Answering.{mismatched, lacks_memory, none_only}
use Rattle.sf_operator.proofs.function_types.mapped_type.Goals as goal

pub returns-in_err-clone_in-in-Let : goal.returns-in_err-clone_in-in-Let
returns-in_err-clone_in-in-Let c = lacks_memory _ _ _ c.from_residual.ensures.1

pub returns-in_err-same-in-Filter : goal.returns-in_err-same-in-Filter
returns-in_err-same-in-Filter c = mismatched _ _ _ c.from_residual-in_err-same-in-Filter.ensures.1 c.in_err-same-in-Filter.ensures.err.1 (rw c.in-Filter.is (none_only c.args.made.now bool_kind _ _ c.bool.ensures c.in_err-same-in-Filter.ensures.err.0))

pub returns-in_err-clone_in-in-Filter : goal.returns-in_err-clone_in-in-Filter
returns-in_err-clone_in-in-Filter c = lacks_memory _ _ _ c.from_residual-in_err-clone_in-in-Filter.ensures.1
