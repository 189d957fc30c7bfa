use Rattle.std.proofs.Common.{sym, ap, subst}
use Rattle.std.specs.Prelude.{IfSome, ◌≢◌}
use Rattle.std.proofs.lemmas.Result.{IfOk-weaker}
use Rattle.sf_value.specs.Values.{Name}
use Rattle.sf_expr.specs.Expressions.{Pattern}
use Rattle.sf_expr.specs.Patterns.{pattern_of}
use Rattle.sf_expr.specs.Arena.{name_at, stored_pattern}
use Rattle.sf_coincidence.specs.Mentions.{BindsOthers}
use Rattle.sf_law.specs.Arena.{plan_expressions}
use Rattle.sf_state.specs.declared.env.Binding.{Binding}
use Rattle.sf_state.specs.declared.env.Running.{Running}
use Rattle.sf_state.specs.declared.env.Collected.{Collected}
use Rattle.sf_state.specs.Standing.{IsNames, HasMentioned}
use Rattle.sf_state.specs.Machine.{machine}
use Rattle.sf_state.proofs.Scopes.{collected_holds}
use Rattle.sf_state.proofs.Fewer.{emptied_kept, inside_pattern, inside_process, pattern_fell, process_fell, members_fell}
use Rattle.sf_state.proofs.env.Env.+fewer.Goals as goal

pub returns-then-is_empty : goal.returns-then-is_empty
returns-then-is_empty t c = λ φ e N. emptied_kept (machine φ c.args.plan.now) c.args.mentioned.now e c.emptied.result (c.is_empty.ensures c.if-is_empty.true (plan_expressions c.args.plan.now)) c.emptied.ensures

pub returns-in_ok-around-in-Bound : goal.returns-in_ok-around-in-Bound
returns-in_ok-around-in-Bound t c =
    let p = c.args.plan.now in
    let m = c.args.mentioned.now in
    let b = c.in-Bound.binding.value in
    let pattern = ap (λ (a : Binding). pattern_of (stored_pattern (plan_expressions p) a.pattern)) c.deref.ensures in
    IfOk-weaker c.over.result _ _
    (λ r over φ e N. inside_pattern (machine φ p) b (λ d. IfSome r (λ names. HasMentioned (machine φ p) m names d))
    (λ d M. over (machine φ p) m c.in_ok-left-in-Bound.left d (λ x w free. c.in_ok-left-in-Bound.ensures x w (subst (λ (q : Pattern). BindsOthers q x) (sym pattern) free))
    (c.in_ok-around-in-Bound.ensures φ d (subst (λ (a : Binding). IsNames (machine φ p) a.around d) (sym c.deref-then-is_bound_by-2.ensures) M))) e (rw c.in-Bound.is at N))
    (rw c.deref-then-is_bound_by-3.ensures at c.over.ensures)

pub returns-in_ok-around-in-Bound-2 : goal.returns-in_ok-around-in-Bound-2
returns-in_ok-around-in-Bound-2 t c =
    let p = c.args.plan.now in
    let m = c.args.mentioned.now in
    let b = c.in-Bound.binding.value in
    let q = pattern_of (stored_pattern (plan_expressions p) b.pattern) in
    let pattern = ap (λ (a : Binding). pattern_of (stored_pattern (plan_expressions p) a.pattern)) c.deref.ensures in
    IfOk-weaker c.or_shared.result _ _
    (λ r shared φ e N. inside_pattern (machine φ p) b (λ d. IfSome r (λ names. HasMentioned (machine φ p) m names d))
    (λ d M. pattern_fell (machine φ p) m d q b.value r (λ x w. subst (λ (q : Pattern). BindsOthers q x) pattern (c.is_bound_by.ensures c.if-is_bound_by.false x w))
    (shared (machine φ p) m d (subst (λ (a : Binding). IsNames (machine φ p) a.around d) (sym c.deref-else-is_bound_by-2.ensures) M)
    (c.in_ok-around-in-Bound-2.ensures φ d (subst (λ (a : Binding). IsNames (machine φ p) a.around d) (sym c.deref-else-is_bound_by.ensures) M)))) e (rw c.in-Bound.is at N))
    c.or_shared.ensures

pub returns-in_ok-around-in-Running : goal.returns-in_ok-around-in-Running
returns-in_ok-around-in-Running t c =
    let p = c.args.plan.now in
    let m = c.args.mentioned.now in
    let b = c.in-Running.running.value in
    let name = ap (λ (a : Running). name_at (plan_expressions p) a.name) c.deref-in-Running.ensures in
    IfOk-weaker c.over-then-is_bound_by-2.result _ _
    (λ r over φ e N. inside_process (machine φ p) b (λ d. IfSome r (λ names. HasMentioned (machine φ p) m names d))
    (λ d P H M. over (machine φ p) m c.in_ok-left-in-Running.left d P (λ x w free. c.in_ok-left-in-Running.ensures x w (subst (λ (n : Name). n ≢ x) (sym name) free)) H
    (c.in_ok-around-in-Running.ensures φ d (subst (λ (a : Running). IsNames (machine φ p) a.around d) (sym c.deref-then-is_bound_by-2-3.ensures) M))) e (rw c.in-Running.is at N))
    (rw c.deref-then-is_bound_by-2-4.ensures at c.over-then-is_bound_by-2.ensures)

pub returns-in_ok-around-in-Running-2 : goal.returns-in_ok-around-in-Running-2
returns-in_ok-around-in-Running-2 t c =
    let p = c.args.plan.now in
    let m = c.args.mentioned.now in
    let b = c.in-Running.running.value in
    let name = ap (λ (a : Running). name_at (plan_expressions p) a.name) c.deref-in-Running.ensures in
    IfOk-weaker c.or_shared-else-is_bound_by-2.result _ _
    (λ r shared φ e N. inside_process (machine φ p) b (λ d. IfSome r (λ names. HasMentioned (machine φ p) m names d))
    (λ d P H M. process_fell (machine φ p) m d (name_at (plan_expressions p) b.name) P r (λ x w. subst (λ (n : Name). n ≢ x) name (c.is_bound_by-in-Running.ensures c.if-is_bound_by-2.false x w))
    (shared (machine φ p) m d (subst (λ (a : Running). IsNames (machine φ p) a.around d) (sym c.deref-else-is_bound_by-2-3.ensures) M)
    (c.in_ok-around-in-Running-2.ensures φ d (subst (λ (a : Running). IsNames (machine φ p) a.around d) (sym c.deref-else-is_bound_by-2-2.ensures) M)))) e (rw c.in-Running.is at N))
    c.or_shared-else-is_bound_by-2.ensures

pub returns-in_ok-around-in-Collected : goal.returns-in_ok-around-in-Collected
returns-in_ok-around-in-Collected t c =
    let p = c.args.plan.now in
    let m = c.args.mentioned.now in
    let b = c.in-Collected.collected.value in
    let name = ap (λ (a : Collected). name_at (plan_expressions p) a.name) c.deref-in-Collected.ensures in
    IfOk-weaker c.over-then-is_bound_by-3.result _ _
    (λ r over φ e N. collected_holds (machine φ p) c.in-Collected.collected (λ d. IfSome r (λ names. HasMentioned (machine φ p) m names d))
    (λ d ms G M. over (machine φ p) m c.in_ok-left-in-Collected.left d ms (λ x w free. c.in_ok-left-in-Collected.ensures x w (subst (λ (n : Name). n ≢ x) (sym name) free)) G
    (c.in_ok-around-in-Collected.ensures φ d (subst (λ (a : Collected). IsNames (machine φ p) a.around d) (sym c.deref-then-is_bound_by-3-3.ensures) M))) e (rw c.in-Collected.is at N))
    (rw c.deref-then-is_bound_by-3-4.ensures at c.over-then-is_bound_by-3.ensures)

pub returns-in_ok-around-in-Collected-2 : goal.returns-in_ok-around-in-Collected-2
returns-in_ok-around-in-Collected-2 t c =
    let p = c.args.plan.now in
    let m = c.args.mentioned.now in
    let b = c.in-Collected.collected.value in
    let name = ap (λ (a : Collected). name_at (plan_expressions p) a.name) c.deref-in-Collected.ensures in
    IfOk-weaker c.or_shared-else-is_bound_by-3.result _ _
    (λ r shared φ e N. collected_holds (machine φ p) c.in-Collected.collected (λ d. IfSome r (λ names. HasMentioned (machine φ p) m names d))
    (λ d ms G M. members_fell (machine φ p) m d (name_at (plan_expressions p) b.name) ms r (λ x w. subst (λ (n : Name). n ≢ x) name (c.is_bound_by-in-Collected.ensures c.if-is_bound_by-3.false x w))
    (shared (machine φ p) m d (subst (λ (a : Collected). IsNames (machine φ p) a.around d) (sym c.deref-else-is_bound_by-3-2.ensures) M)
    (c.in_ok-around-in-Collected-2.ensures φ d (subst (λ (a : Collected). IsNames (machine φ p) a.around d) (sym c.deref-else-is_bound_by-3.ensures) M)))) e (rw c.in-Collected.is at N))
    c.or_shared-else-is_bound_by-3.ensures
