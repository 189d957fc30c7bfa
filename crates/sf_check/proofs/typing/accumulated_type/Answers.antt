use Rattle.std.proofs.Common.{refl, ◌∙◌}
use Rattle.sf_operator.proofs.Answering.{mismatched, none_only, some_only, none_found}
use Rattle.sf_check.proofs.typing.accumulated_type.Goals as goal

pub returns-in_err-same-in-EdgeBy : goal.returns-in_err-same-in-EdgeBy
returns-in_err-same-in-EdgeBy c = mismatched _ _ _ c.from_residual.ensures.1 c.in_err-same-in-EdgeBy.ensures.err.1 (rw c.in-EdgeBy.is (none_only c.args.input.now c.args.given _ _ refl c.in_err-same-in-EdgeBy.ensures.err.0))

pub returns-in_err-payload-in-EdgeBy : goal.returns-in_err-payload-in-EdgeBy
returns-in_err-payload-in-EdgeBy c = mismatched _ _ _ c.from_residual-in_err-payload-in-EdgeBy.ensures.1 c.in_err-payload-in-EdgeBy.ensures.err.1 (rw c.in-EdgeBy.is (some_only c.args.input.now c.args.given _ _ refl c.in_ok-same-in-EdgeBy.ensures.ok ∙ none_found _ c.in_err-payload-in-EdgeBy.ensures.err.0))

pub returns-in_err-same-in-AccumBy : goal.returns-in_err-same-in-AccumBy
returns-in_err-same-in-AccumBy c = mismatched _ _ _ c.from_residual-in_err-same-in-AccumBy.ensures.1 c.in_err-same-in-AccumBy.ensures.err.1 (rw c.in-AccumBy.is (none_only c.args.made c.args.given _ _ refl c.in_err-same-in-AccumBy.ensures.err.0))

pub returns-in_err-same-in-AccumHoldBy : goal.returns-in_err-same-in-AccumHoldBy
returns-in_err-same-in-AccumHoldBy c = mismatched _ _ _ c.from_residual-in_err-same-in-AccumHoldBy.ensures.1 c.in_err-same-in-AccumHoldBy.ensures.err.1 (rw c.in-AccumHoldBy.is (none_only c.args.made c.args.given _ _ refl c.in_err-same-in-AccumHoldBy.ensures.err.0))

pub returns-in_err-same-in-Scan : goal.returns-in_err-same-in-Scan
returns-in_err-same-in-Scan c = mismatched _ _ _ c.from_residual-in_err-same-in-Scan.ensures.1 c.in_err-same-in-Scan.ensures.err.1 (rw c.in-Scan.is (none_only c.args.made c.args.given _ _ refl c.in_err-same-in-Scan.ensures.err.0))
