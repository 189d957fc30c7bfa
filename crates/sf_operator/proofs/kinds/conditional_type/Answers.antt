use Rattle.sf_value.specs.Values.{bool_kind}
use Rattle.std.proofs.Common.{refl, ◌∙◌}
use Rattle.sf_operator.proofs.Answering.{mismatched, lacks_memory, none_only, some_only}
use Rattle.sf_operator.proofs.kinds.conditional_type.Goals as goal

pub returns-in_err-same : goal.returns-in_err-same
returns-in_err-same c = mismatched _ _ _ c.from_residual.ensures.1 c.in_err-same.ensures.err.1 (none_only c.args.condition.now bool_kind _ _ c.bool.ensures c.in_err-same.ensures.err.0)

pub returns-in_err-same-2 : goal.returns-in_err-same-2
returns-in_err-same-2 c = mismatched _ _ _ c.from_residual-in_err-same-2.ensures.1 c.in_err-same-2.ensures.err.1 (some_only c.args.condition.now bool_kind _ _ c.bool.ensures c.in_ok-same.ensures.ok ∙ none_only c.args.first.now c.args.second.now _ _ refl c.in_err-same-2.ensures.err.0)

pub returns-in_err-clone_in : goal.returns-in_err-clone_in
returns-in_err-clone_in c = lacks_memory _ _ _ c.from_residual-in_err-clone_in.ensures.1
