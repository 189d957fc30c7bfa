use Rattle.std.proofs.Common.{IsTrue, sym, subst}
use Rattle.sf_expr.specs.Arena.{name_at}
use Rattle.sf_law.specs.Arena.{plan_asks, plan_expressions}
use Rattle.sf_state.specs.Standing.{itself, unborn}
use Rattle.sf_begin.proofs.calling.closed.Goals as goal

pub returns : goal.returns
returns c = λ φ e N.
    let p = c.args.plan.now in
    let closed = c.in_ok-process.ensures φ e N in
    (itself (unborn closed), λ asked. c.in_ok-base.ensures φ _ (subst (λ k. IsTrue (plan_asks p (name_at (plan_expressions p) k))) (sym c.name-under.ensures) asked) closed)
