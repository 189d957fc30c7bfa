use Rattle.std.proofs.Common.{ap, ◌∙◌, Err, arith}
use Rattle.sf_value.specs.Values.{pair_kind, nodes}
use Rattle.sf_operator.proofs.Answering.{lacks_memory, not_made}
use Rattle.sf_operator.proofs.kinds.pair_type.Goals as goal

pub returns-in_err-clone_in : goal.returns-in_err-clone_in
returns-in_err-clone_in c = lacks_memory _ _ _ c.from_residual.ensures.1

pub returns-in_err-clone_in-2 : goal.returns-in_err-clone_in-2
returns-in_err-clone_in-2 c = lacks_memory _ _ _ c.from_residual-in_err-clone_in-2.ensures.1

pub returns-in-Err : goal.returns-in-Err
returns-in-Err c = not_made (pair_kind c.args.first.now c.args.second.now) _ c.in-Err.why _ (λ e. omega (arith, c.pair.ensures.large.0 (c.in-Err.is ∙ ap Err e), ap nodes c.in_ok-clone_in.ensures.same, ap nodes c.in_ok-clone_in-2.ensures.same)) c.not_made.ensures.large c.not_made.ensures.memory
