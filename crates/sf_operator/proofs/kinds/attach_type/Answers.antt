use Rattle.std.proofs.Common.{ap, Some}
use Rattle.sf_value.specs.Values.{event_kind, pair_kind}
use Rattle.sf_operator.specs.Kinds.{found_then}
use Rattle.sf_operator.proofs.Answering.{mismatched, none_found, pair_refused}
use Rattle.sf_operator.proofs.kinds.attach_type.Goals as goal

pub returns-in_err-payload : goal.returns-in_err-payload
returns-in_err-payload c = mismatched _ _ _ c.from_residual.ensures.1 c.in_err-payload.ensures.err.1 (none_found _ c.in_err-payload.ensures.err.0)

pub returns-in_err-pair : goal.returns-in_err-pair
returns-in_err-pair c = pair_refused _ _ _ _ _ (ap (λ o. found_then o (λ a. Some (event_kind (pair_kind a c.args.right.now)))) c.in_ok-payload.ensures.ok) c.from_residual-in_err-pair.ensures.1 c.in_err-pair.ensures
