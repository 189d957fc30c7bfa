use Rattle.std.proofs.Common.{◌≡◌}
use Rattle.sf_expr.specs.Evaluation.{eval}
use Rattle.sf_mean.specs.Formulas.{is_high}
use Rattle.sf_begin.proofs.Collected.{told_in, not_told_in}
use Rattle.sf_begin.proofs.collecting.is_met.Goals as goal
use Rattle.sf_begin.specs.Contexts.{context_machine}

pub returns-in-Ok : goal.returns-in-Ok
returns-in-Ok g c = λ j e C N. told_in (context_machine g.R.Holds.answers c.args.context.now) c.args.names.now e N (eval j) (λ b v. b ≡ is_high v) c.in-Ok.value c.is_high.result (c.in-Ok.ensures j C) c.is_high.ensures

pub returns-in-Err : goal.returns-in-Err
returns-in-Err g c = λ j e C N. rw c.fault_of.ensures (not_told_in (context_machine g.R.Holds.answers c.args.context.now) c.args.names.now e N (eval j) (λ b v. b ≡ is_high v) c.in-Err.fault (c.in-Err.ensures j C))
