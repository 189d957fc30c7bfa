use Rattle.sf_coincidence.proofs.Same.{alike_itself}
use Rattle.std.proofs.Common.{IsTrue, sym, ◌∙◌, subst}
use Rattle.sf_mean.specs.Lives.{frozen}
use Rattle.sf_mean.specs.Lives
use Rattle.sf_expr.specs.Arena.{name_at}
use Rattle.sf_law.specs.Arena.{plan_asks, plan_expressions}
use Rattle.sf_mean.proofs.Refrozen.{frozen_base}
use Rattle.sf_state.specs.Standing.{itself, unborn, IsProcess, is_closure}
use Rattle.sf_state.specs.Machine.{machine}
use Rattle.sf_state.proofs.state.Continuation.begin.Goals as goal

pub returns : goal.returns
returns c = λ φ e P L N A began.
    let p = c.args.plan.now in
    let base : IsTrue (plan_asks p (name_at (plan_expressions p) c.args.self.now.name)) → IsProcess (machine φ p) c.in_ok-base.base (Lives.base (frozen P L c.args.wait)) = λ asked. subst (IsProcess (machine φ p) c.in_ok-base.base) (sym (frozen_base P L c.args.wait ∙ began)) (c.in_ok-base.ensures asked φ e N) in
    itself (unborn (is_closure (alike_itself _) (c.in_ok-around.ensures φ _ (c.in_ok-known.ensures (machine φ p) e _ N (c.in_ok-frozen.ensures (machine φ p) P L A, base)))))
