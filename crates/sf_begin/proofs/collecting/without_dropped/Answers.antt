use Rattle.sf_value.specs.declared.fault.Fault.TheVariants.{Memory}
use Rattle.sf_expr.specs.Evaluation.{answer, eval}
use Rattle.sf_mean.specs.Collections.{as_key, drop}
use Rattle.sf_begin.specs.Beginning.{makes_nothing}
use Rattle.sf_begin.specs.Collecting.{HasMembers}
use Rattle.sf_begin.proofs.Arguments.{made_failure}
use Rattle.sf_begin.proofs.Collected.{is_dropped, fails_in}
use Rattle.sf_begin.proofs.collecting.without_dropped.Goals as goal
use Rattle.sf_begin.specs.Contexts.{context_machine}

pub returns-in_err-left-in-Ok : goal.returns-in_err-left-in-Ok
returns-in_err-left-in-Ok g c = λ j e ms C N G. made_failure _ _ _ Memory c.from_residual.ensures.1 makes_nothing

pub returns-in_ok-left-in-Ok : goal.returns-in_ok-left-in-Ok
returns-in_ok-left-in-Ok g c = λ j e ms C N G.
    let μ = context_machine g.R.Holds.answers c.args.context.now in
    is_dropped μ c.args.names.now e N j c.in-Ok.value _ c.in_ok-left-in-Ok.left ms (c.in-Ok.ensures j C) c.as_key.ensures (c.in_ok-left-in-Ok.ensures μ ms G)

pub returns-in-Err : goal.returns-in-Err
returns-in-Err g c = λ j e ms C N G.
    let μ = context_machine g.R.Holds.answers c.args.context.now in
    rw c.fault_of.ensures (fails_in μ c.args.names.now e N (eval j) (HasMembers μ) (λ v. answer (drop (as_key v) ms)) c.in-Err.fault (c.in-Err.ensures j C))
