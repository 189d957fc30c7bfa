use Rattle.std.proofs.Common.{[], Some, sym, ap, subst, ◌∙◌}
use Rattle.std.specs.Prelude.{bytes_eq}
use Rattle.sf_expr.specs.Arena.{name_at}
use Rattle.sf_law.specs.Arena.{plan_expressions}
use Rattle.sf_state.specs.declared.env.Binding.{Binding}
use Rattle.sf_law.specs.Places.{last_parameter}
use Rattle.sf_mean.specs.Lives.{process_of}
use Rattle.sf_state.specs.declared.env.Call.{Call}
use Rattle.sf_state.specs.declared.env.Running.{Running}
use Rattle.sf_state.specs.declared.env.Collected.{Collected}
use Rattle.sf_state.specs.Names.{handed_of, given_at}
use Rattle.sf_state.specs.Standing.{IsNames, IsFound}
use Rattle.sf_state.specs.Machine.{machine}
use Rattle.sf_state.proofs.Scopes.{found_value, found_outside, found_there, found_further, found_members, found_behind, names_called, found_called}
use Rattle.sf_state.proofs.env.Env.+running.Goals as goal

pub returns-in-Some : goal.returns-in-Some
returns-in-Some t c = λ φ e N.
    let p = c.args.plan.now in
    let x = name_at (plan_expressions p) c.args.name in
    let b = c.in-Bound.binding.value in
    let pattern = ap (λ (a : Binding). a.pattern) c.deref.ensures in
    let value = ap (λ (a : Binding). a.value) c.deref-in-Bound.ensures in
    found_value (machine φ p) x b.pattern b.value b.around c.in-Some.field-0.now e (rw (sym pattern, sym value) (c.in-Some.ensures [])) (rw c.in-Bound.is at N)

pub returns-in-None : goal.returns-in-None
returns-in-None t c = λ φ e N.
    let p = c.args.plan.now in
    let x = name_at (plan_expressions p) c.args.name in
    let b = c.in-Bound.binding.value in
    let pattern = ap (λ (a : Binding). a.pattern) c.deref.ensures in
    let value = ap (λ (a : Binding). a.value) c.deref-in-Bound.ensures in
    found_outside (machine φ p) x b.pattern b.value b.around _ e (rw (sym pattern, sym value) (c.in-None.ensures []))
    (λ e M. c.running.ensures φ e (subst (λ a. IsNames (machine φ p) a.around e) (sym c.deref-in-None.ensures) M)) (rw c.in-Bound.is at N)

pub returns-then-same_name : goal.returns-then-same_name
returns-then-same_name t c = λ φ e N.
    let p = c.args.plan.now in
    let x = name_at (plan_expressions p) c.args.name in
    let b = c.in-Running.running.value in
    let found : IsFound (machine φ p) x (Some b.handed) (process_of x e) =
    found_there (machine φ p) x b e (ap (λ (a : Running). bytes_eq x (name_at (plan_expressions p) a.name)) (sym c.deref-in-Running.ensures) ∙ sym c.same_name.ensures ∙ c.if-same_name.true) (rw c.in-Running.is at N) in
    subst (λ (r : Running). IsFound (machine φ p) x (Some r.handed) (process_of x e)) (sym c.deref-then-same_name.ensures) found

pub returns-else-same_name : goal.returns-else-same_name
returns-else-same_name t c = λ φ e N.
    let p = c.args.plan.now in
    let x = name_at (plan_expressions p) c.args.name in
    let b = c.in-Running.running.value in
    found_further (machine φ p) x b.name b.handed.process b.handed.base b.around _ e (ap (λ (a : Running). bytes_eq x (name_at (plan_expressions p) a.name)) (sym c.deref-in-Running.ensures) ∙ sym c.same_name.ensures ∙ c.if-same_name.false)
    (λ e M. c.running-else-same_name.ensures φ e (subst (λ a. IsNames (machine φ p) a.around e) (sym c.deref-else-same_name.ensures) M)) (rw c.in-Running.is at N)

pub returns-then-same_name-2 : goal.returns-then-same_name-2
returns-then-same_name-2 t c = λ φ e N.
    let p = c.args.plan.now in
    let x = name_at (plan_expressions p) c.args.name in
    let b = c.in-Collected.collected.value in
    found_members (machine φ p) x c.in-Collected.collected e (ap (λ (a : Collected). bytes_eq x (name_at (plan_expressions p) a.name)) (sym c.deref-in-Collected.ensures) ∙ sym c.same_name-in-Collected.ensures ∙ c.if-same_name-2.true) (rw c.in-Collected.is at N)

pub returns-else-same_name-2 : goal.returns-else-same_name-2
returns-else-same_name-2 t c = λ φ e N.
    let p = c.args.plan.now in
    let x = name_at (plan_expressions p) c.args.name in
    let b = c.in-Collected.collected.value in
    found_behind (machine φ p) x c.in-Collected.collected _ e (ap (λ (a : Collected). bytes_eq x (name_at (plan_expressions p) a.name)) (sym c.deref-in-Collected.ensures) ∙ sym c.same_name-in-Collected.ensures ∙ c.if-same_name-2.false)
    (λ e M. c.running-else-same_name-2.ensures φ e (subst (λ (a : Collected). IsNames (machine φ p) a.around e) (sym c.deref-else-same_name-2.ensures) M)) (rw c.in-Collected.is at N)

pub returns-in-Called : goal.returns-in-Called
returns-in-Called t c = λ φ e N.
    let p = c.args.plan.now in
    let x = name_at (plan_expressions p) c.args.name in
    let given = c.handed.ensures ∙ ap (λ (k : Call). handed_of (given_at (last_parameter x (names_called p k)) k.arguments.items)) c.deref-in-Called.ensures in
    subst (λ r. IsFound (machine φ p) x r (process_of x e)) (sym given) (found_called (machine φ p) x c.in-Called.call e (rw c.in-Called.is at N))
