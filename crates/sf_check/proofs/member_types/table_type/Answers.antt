use Rattle.std.proofs.Common.{ap, ◌∙◌, Err, arith}
use Rattle.sf_value.specs.Values.{table_kind, nodes}
use Rattle.sf_value.specs.KindView.{key_kind_of}
use Rattle.sf_operator.proofs.Answering.{lacks_memory, not_made}
use Rattle.sf_check.proofs.member_types.table_type.Goals as goal

pub returns-in_err-clone_in : goal.returns-in_err-clone_in
returns-in_err-clone_in c = lacks_memory _ _ _ c.from_residual.ensures.1

pub returns-in-Err : goal.returns-in-Err
returns-in-Err c = not_made (table_kind (key_kind_of c.args.types.now.keys) c.args.types.now.output) _ c.in-Err.why _ (λ e. omega (arith, c.table.ensures.large.0 (c.in-Err.is ∙ ap Err e), ap nodes c.in_ok-clone_in.ensures.same)) c.not_made.ensures.large c.not_made.ensures.memory
