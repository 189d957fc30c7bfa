use Rattle.std.proofs.Common.{IsTrue, subst, sym}
use Rattle.sf_expr.specs.Arena.{name_at}
use Rattle.sf_mean.proofs.Refrozen.{started_base}
use Rattle.sf_law.specs.Arena.{plan_asks, plan_expressions}
use Rattle.sf_state.specs.Standing.{IsProcess}
use Rattle.sf_state.specs.Machine.{machine}
use Rattle.sf_begin.proofs.References.{asked_alone, asked_on}
use Rattle.sf_begin.proofs.calling.handed_on.Goals as goal

pub started-requires : goal.started-requires
started-requires g c =
    let p = c.args.context.now.plan.now in
    let x = plan_expressions p in
    asked_alone (plan_asks p (name_at x c.args.parameter.now.name)) (plan_asks p (name_at x c.args.name)) c.args.start c.requires

pub returns : goal.returns
returns g c = λ φ e N.
    let p = c.args.context.now.plan.now in
    let x = plan_expressions p in
    let k = name_at x c.args.name in
    let own = asked_on (plan_asks p (name_at x c.args.parameter.now.name)) (plan_asks p k) c.args.start c.requires in
    (c.in_ok-process.ensures φ e N, λ asked. subst (λ P. IsProcess (machine φ p) c.in_ok-base.base P) (sym (started_base c.args.start k e)) (c.in_ok-base.ensures φ e N (subst (λ i. IsTrue (plan_asks p (name_at x i))) (sym c.name-under.ensures) asked) (own asked)))
