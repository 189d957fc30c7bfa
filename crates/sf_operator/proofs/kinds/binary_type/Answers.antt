use Rattle.std.proofs.Common.{refl}
use Rattle.sf_operator.proofs.Answering.{mismatched, none_only, none_found}
use Rattle.sf_operator.proofs.kinds.binary_type.Goals as goal

pub returns-in_err-same-in-Equality : goal.returns-in_err-same-in-Equality
returns-in_err-same-in-Equality c = mismatched _ _ _ c.from_residual.ensures.1 c.in_err-same-in-Equality.ensures.err.1 (rw c.in-Equality.is (none_only c.args.left.now c.args.right.now _ _ refl c.in_err-same-in-Equality.ensures.err.0))

pub returns-in_err-payload-in-Tag : goal.returns-in_err-payload-in-Tag
returns-in_err-payload-in-Tag c = mismatched _ _ _ c.from_residual-in_err-payload-in-Tag.ensures.1 c.in_err-payload-in-Tag.ensures.err.1 (rw c.in-Tag.is (none_found _ c.in_err-payload-in-Tag.ensures.err.0))
