use Rattle.sf_value.specs.declared.fault.Fault.TheVariants.{Memory}
use Rattle.sf_expr.specs.Evaluation.{answer, eval}
use Rattle.sf_law.specs.Arena.{plan_tree}
use Rattle.sf_mean.specs.Lives.{closure}
use Rattle.sf_mean.specs.Collections.{as_key, add}
use Rattle.sf_state.specs.Standing.{itself, unborn}
use Rattle.sf_begin.specs.Contexts.{context_machine}
use Rattle.sf_begin.specs.Beginning.{makes_nothing}
use Rattle.sf_begin.specs.Collecting.{HasMembers}
use Rattle.sf_begin.proofs.Arguments.{made_failure}
use Rattle.sf_begin.proofs.Collected.{is_added, fails_in}
use Rattle.sf_begin.proofs.collecting.with_added.Goals as goal

pub returns-in_err-process-in-Ok : goal.returns-in_err-process-in-Ok
returns-in_err-process-in-Ok g c = λ j e ms C N G. made_failure _ _ _ Memory c.from_residual.ensures.1 makes_nothing

pub returns-in_err-all-in-Ok : goal.returns-in_err-all-in-Ok
returns-in_err-all-in-Ok g c = λ j e ms C N G. made_failure _ _ _ Memory c.from_residual-in_err-all-in-Ok.ensures.1 makes_nothing

pub returns-in_ok-all-in-Ok : goal.returns-in_ok-all-in-Ok
returns-in_ok-all-in-Ok g c = λ j e ms C N G.
    let μ = context_machine g.R.Holds.answers c.args.context.now in
    let t = plan_tree μ.plan c.args.term in
    is_added μ c.args.names.now e N j c.in-Ok.value _ c.in_ok-all-in-Ok.all ms (c.in-Ok.ensures j C) c.as_key.ensures t (c.in_ok-all-in-Ok.ensures μ ms (closure t e) G (itself (unborn (c.in_ok-process-in-Ok.ensures μ.answers e N))))

pub returns-in-Err : goal.returns-in-Err
returns-in-Err g c = λ j e ms C N G.
    let μ = context_machine g.R.Holds.answers c.args.context.now in
    rw c.fault_of.ensures (fails_in μ c.args.names.now e N (eval j) (HasMembers μ) (λ v. answer (add (as_key v) (closure (plan_tree μ.plan c.args.term) e) ms)) c.in-Err.fault (c.in-Err.ensures j C))
