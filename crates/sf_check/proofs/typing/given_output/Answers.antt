use Rattle.std.proofs.Common.{refl, ◌∙◌}
use Rattle.sf_value.specs.Values.{bool_kind}
use Rattle.sf_operator.proofs.Answering.{mismatched, none_only, some_only, none_found, none_after}
use Rattle.sf_check.proofs.typing.given_output.Goals as goal

pub returns-in_err-same-in-Initially : goal.returns-in_err-same-in-Initially
returns-in_err-same-in-Initially c = mismatched _ _ _ c.from_residual.ensures.1 c.in_err-same-in-Initially.ensures.err.1 (rw c.in-Initially.is (none_only c.args.input.now c.args.given _ _ refl c.in_err-same-in-Initially.ensures.err.0))

pub returns-in_err-same-in-InitialPre : goal.returns-in_err-same-in-InitialPre
returns-in_err-same-in-InitialPre c = mismatched _ _ _ c.from_residual-in_err-same-in-InitialPre.ensures.1 c.in_err-same-in-InitialPre.ensures.err.1 (rw c.in-InitialPre.is (none_only c.args.input.now c.args.given _ _ refl c.in_err-same-in-InitialPre.ensures.err.0))

pub returns-in_err-same-in-InitializedPre : goal.returns-in_err-same-in-InitializedPre
returns-in_err-same-in-InitializedPre c = mismatched _ _ _ c.from_residual-in_err-same-in-InitializedPre.ensures.1 c.in_err-same-in-InitializedPre.ensures.err.1 (rw c.in-InitializedPre.is (none_only c.args.input.now c.args.given _ _ refl c.in_err-same-in-InitializedPre.ensures.err.0))

pub returns-in_err-same-in-InitialEdge : goal.returns-in_err-same-in-InitialEdge
returns-in_err-same-in-InitialEdge c = mismatched _ _ _ c.from_residual-in_err-same-in-InitialEdge.ensures.1 c.in_err-same-in-InitialEdge.ensures.err.1 (rw c.in-InitialEdge.is (none_only c.args.input.now bool_kind _ _ c.bool.ensures c.in_err-same-in-InitialEdge.ensures.err.0))

pub returns-in_err-same-in-InitialEdge-2 : goal.returns-in_err-same-in-InitialEdge-2
returns-in_err-same-in-InitialEdge-2 c = mismatched _ _ _ c.from_residual-in_err-same-in-InitialEdge-2.ensures.1 c.in_err-same-in-InitialEdge-2.ensures.err.1 (rw c.in-InitialEdge.is (some_only c.args.input.now bool_kind _ _ c.bool.ensures c.in_ok-same-in-InitialEdge.ensures.ok ∙ none_only c.args.given bool_kind _ _ c.bool-in-InitialEdge.ensures c.in_err-same-in-InitialEdge-2.ensures.err.0))

pub returns-in_err-same-in-EdgeTag : goal.returns-in_err-same-in-EdgeTag
returns-in_err-same-in-EdgeTag c = mismatched _ _ _ c.from_residual-in_err-same-in-EdgeTag.ensures.1 c.in_err-same-in-EdgeTag.ensures.err.1 (rw c.in-EdgeTag.is (none_only c.args.input.now bool_kind _ _ c.bool-in-EdgeTag.ensures c.in_err-same-in-EdgeTag.ensures.err.0))

pub returns-in_err-payload-in-Hold : goal.returns-in_err-payload-in-Hold
returns-in_err-payload-in-Hold c = mismatched _ _ _ c.from_residual-in_err-payload-in-Hold.ensures.1 c.in_err-payload-in-Hold.ensures.err.1 (rw c.in-Hold.is (none_found _ c.in_err-payload-in-Hold.ensures.err.0))

pub returns-in_err-same-in-Hold : goal.returns-in_err-same-in-Hold
returns-in_err-same-in-Hold c = mismatched _ _ _ c.from_residual-in_err-same-in-Hold.ensures.1 c.in_err-same-in-Hold.ensures.err.1 (rw c.in-Hold.is (none_after _ c.in_ok-payload-in-Hold.ensures.ok (none_only c.in_ok-payload-in-Hold.field-0.now c.args.given _ _ refl c.in_err-same-in-Hold.ensures.err.0)))

pub returns-in_err-payload-in-DelayedHold : goal.returns-in_err-payload-in-DelayedHold
returns-in_err-payload-in-DelayedHold c = mismatched _ _ _ c.from_residual-in_err-payload-in-DelayedHold.ensures.1 c.in_err-payload-in-DelayedHold.ensures.err.1 (rw c.in-DelayedHold.is (none_found _ c.in_err-payload-in-DelayedHold.ensures.err.0))

pub returns-in_err-same-in-DelayedHold : goal.returns-in_err-same-in-DelayedHold
returns-in_err-same-in-DelayedHold c = mismatched _ _ _ c.from_residual-in_err-same-in-DelayedHold.ensures.1 c.in_err-same-in-DelayedHold.ensures.err.1 (rw c.in-DelayedHold.is (none_after _ c.in_ok-payload-in-DelayedHold.ensures.ok (none_only c.in_ok-payload-in-DelayedHold.field-0.now c.args.given _ _ refl c.in_err-same-in-DelayedHold.ensures.err.0)))
