use Rattle.sf_operator.specs.Kinds.{kind_of_keys}
use Rattle.sf_value.specs.KindView.{key_kind_of}
use Rattle.sf_operator.proofs.Answering.{mismatched, none_found, none_after, none_only}
use Rattle.sf_operator.proofs.kinds.get_type.Goals as goal

pub returns-in_err-keys : goal.returns-in_err-keys
returns-in_err-keys c = mismatched _ _ _ c.from_residual.ensures.1 c.in_err-keys.ensures.err.1 (none_found _ c.in_err-keys.ensures.err.0)

pub returns-in_err-same : goal.returns-in_err-same
returns-in_err-same c = mismatched _ _ _ c.from_residual-in_err-same.ensures.1 c.in_err-same.ensures.err.1 (none_after _ c.in_ok-keys.ensures.ok (none_only c.args.right.now (kind_of_keys (key_kind_of c.in_ok-keys.keys)) _ _ c.type_of_keys.ensures c.in_err-same.ensures.err.0))
