use Rattle.std.proofs.Common.{◌≡◌, ◌++◌, map, Ok, sym, ap, ◌∙◌, subst, refl, inl, inr, Vec}
use Rattle.std.specs.declared.alloc.Global.{Global}
use Rattle.sf_value.specs.Keys.{key_of, key_index, AreDifferentKeys}
use Rattle.sf_value.specs.declared.fault.Fault.TheVariants.{Memory}
use Rattle.sf_operator.specs.FunctionForms.{value_of_key}
use Rattle.sf_expr.specs.Evaluation.{apply}
use Rattle.sf_mean.specs.Lives.{scope_around}
use Rattle.sf_mean.specs.Formulas.{is_high}
use Rattle.sf_state.specs.declared.state.State.{State}
use Rattle.sf_state.specs.declared.state.Gathered.{Gathered}
use Rattle.sf_law.specs.Arena.{plan_expressions}
use Rattle.sf_begin.specs.Contexts.{context_machine}
use Rattle.sf_code.specs.Worth.{frame_around}
use Rattle.sf_state.proofs.Scopes.{functions_around, scope_is}
use Rattle.sf_begin.proofs.Sought.{left_out, placeless_before, put_behind}
use Rattle.sf_begin.specs.Beginning.{Makes, makes_nothing}
use Rattle.sf_begin.proofs.Arguments.{made_failure}
use Rattle.sf_begin.proofs.Collected.{start_sifted, sifted_kept, sifted_out, not_sifted, all_sifted, different_kept, coded_over}
use Rattle.sf_begin.proofs.collecting.keep_members.Goals as goal

pub returns-in_err-around : goal.returns-in_err-around
returns-in_err-around g c = λ f e ms C N G. made_failure _ _ _ Memory c.from_residual.ensures.1 makes_nothing

pub returns-in_err-own : goal.returns-in_err-own
returns-in_err-own g c = λ f e ms C N G. made_failure _ _ _ Memory c.from_residual-in_err-own.ensures.1 makes_nothing

pub loop-key-init : goal.loop-key-init
loop-key-init g c =
    let gives = c.into_iter-key-iterator.ensures.into_iter_gives in
    let keys : c.into_iter-key-iterator.result.a.rest.now ≡ c.all.result.now = ap (λ z. z.a.rest.now) gives ∙ ap (λ z. z.rest.now) c.zip-key-items.ensures.first ∙ c.iter.ensures.rest in
    let states : c.into_iter-key-iterator.result.b.rest.items ≡ c.in_ok-own.own.items = ap (λ z. z.b.rest.items) gives ∙ c.zip-key-items.ensures.second.0 in
    let under : map key_of c.into_iter-key-iterator.result.a.rest.now ≡ c.args.members.keys.value = ap (map key_of) keys ∙ c.all.ensures.keys ∙ c.deref.ensures in
    record {
      different = subst (λ ks. AreDifferentKeys (ks ++ map key_of c.into_iter-key-iterator.result.a.rest.now)) (sym c.new-under.ensures) (subst AreDifferentKeys (sym (ap (map key_of) keys ∙ c.all.ensures.keys)) c.all.ensures.different);
      sifted = λ f e ms C N G.
          let μ = context_machine g.R.Holds.answers c.args.context.now in
          start_sifted μ c.args.members (λ x. apply f x (scope_around μ.answers e)) ms _ _ _ _ under c.in_ok-own.own.items states (c.in_ok-own.ensures μ) c.new-under.ensures c.new-kept.ensures.items G;
    }

pub loop-key-preserved-in-Continue-branch-6 : goal.loop-key-preserved-in-Continue-branch-6
loop-key-preserved-in-Continue-branch-6 g c =
    let steps = c.in-Some.ensures.steps in
    let own = key_of c.in_ok-same.same in
    let different = subst (λ (ks : _). AreDifferentKeys (c.loop-key.under ++ map key_of ks)) steps.0 c.loop-key.invariant.different in
    let none = ap (λ k. key_index k c.loop-key.under) c.in_ok-same.ensures ∙ placeless_before c.loop-key.under (key_of c.in-Some.key.now) _ different in
    let put = put_behind own c.loop-key.under c.push.new.self c.in_ok-push.field-0 none c.in_ok-push.ensures.added c.in_ok-push.ensures.keys in
    record {
      different = different_kept c.loop-key.under _ (key_of c.in-Some.key.now) _ _ _ (ap (map key_of) steps.0) c.in_ok-same.ensures put c.loop-key.invariant.different;
      sifted = λ f e ms C N G.
          let μ = context_machine g.R.Holds.answers c.args.context.now in
          let told = subst (λ b. Makes (λ b v. b ≡ is_high v) (apply f (value_of_key (key_of c.in-Some.key.now)) (scope_around μ.answers e)) (Ok b)) c.if-stays.true (c.in_ok-stays.ensures f (scope_around μ.answers e) (functions_around μ.answers e) (coded_over C (scope_around μ.answers e) _ (c.in_ok-around.ensures μ.answers ∙ ap (frame_around (plan_expressions μ.plan) c.args.code.now.around) (scope_is μ c.args.names.now e N)))) in
          sifted_kept μ c.args.members.wait (λ x. apply f x (scope_around μ.answers e)) ms _ _ _ _ _ _ c.in-Some.key.now c.in-Some.state steps.0 steps.1.0 (c.loop-key.invariant.sifted f e ms C N G) c.in_ok-same.same _ _ told c.in_ok-same.ensures put c.in_ok-push-2.ensures.items;
    }

pub loop-key-preserved : goal.loop-key-preserved
loop-key-preserved g c =
    let steps = c.in-Some.ensures.steps in
    record {
      different = left_out c.loop-key.under (key_of c.in-Some.key.now) _ (subst (λ (ks : _). AreDifferentKeys (c.loop-key.under ++ map key_of ks)) steps.0 c.loop-key.invariant.different);
      sifted = λ f e ms C N G.
          let μ = context_machine g.R.Holds.answers c.args.context.now in
          let told = subst (λ b. Makes (λ b v. b ≡ is_high v) (apply f (value_of_key (key_of c.in-Some.key.now)) (scope_around μ.answers e)) (Ok b)) c.if-stays.false (c.in_ok-stays.ensures f (scope_around μ.answers e) (functions_around μ.answers e) (coded_over C (scope_around μ.answers e) _ (c.in_ok-around.ensures μ.answers ∙ ap (frame_around (plan_expressions μ.plan) c.args.code.now.around) (scope_is μ c.args.names.now e N)))) in
          sifted_out μ c.args.members.wait (λ x. apply f x (scope_around μ.answers e)) ms _ _ _ _ _ _ c.in-Some.key.now c.in-Some.state steps.0 steps.1.0 (c.loop-key.invariant.sifted f e ms C N G) told;
    }

pub returns-in_err-stays : goal.returns-in_err-stays
returns-in_err-stays g c = λ f e ms C N G.
    let μ = context_machine g.R.Holds.answers c.args.context.now in
    let steps = c.in-Some.ensures.steps in
    let x = c.in_err-stays.field-0.0 in
    made_failure _ _ _ x c.from_residual-in_err-stays.ensures.1
    (not_sifted μ c.args.members.wait (λ x. apply f x (scope_around μ.answers e)) ms _ _ _ _ _ _ c.in-Some.key.now c.in-Some.state steps.0 steps.1.0 (c.loop-key.invariant.sifted f e ms C N G) x (c.in_err-stays.ensures f (scope_around μ.answers e) (functions_around μ.answers e) (coded_over C (scope_around μ.answers e) _ (c.in_ok-around.ensures μ.answers ∙ ap (frame_around (plan_expressions μ.plan) c.args.code.now.around) (scope_is μ c.args.names.now e N)))))

pub returns-in_err-same : goal.returns-in_err-same
returns-in_err-same g c = λ f e ms C N G. made_failure _ _ _ Memory c.from_residual-in_err-same.ensures.1 makes_nothing

pub returns-in_err-push : goal.returns-in_err-push
returns-in_err-push g c = λ f e ms C N G. made_failure _ _ _ Memory c.from_residual-in_err-push.ensures.1 makes_nothing

pub returns-in_err-push-2 : goal.returns-in_err-push-2
returns-in_err-push-2 g c = λ f e ms C N G. made_failure _ _ _ Memory c.from_residual-in_err-push-2.ensures.1 makes_nothing

pub returns-in_err-keys : goal.returns-in_err-keys
returns-in_err-keys g c = λ f e ms C N G. made_failure _ _ _ Memory c.from_residual-in_err-keys.ensures.1 makes_nothing

pub returns-in_err-states : goal.returns-in_err-states
returns-in_err-states g c = λ f e ms C N G. made_failure _ _ _ Memory c.from_residual-in_err-states.ensures.1 makes_nothing

pub returns : goal.returns
returns g c = λ f e ms C N G.
    let μ = context_machine g.R.Holds.answers c.args.context.now in
    let h : Gathered = record { keys = c.in_ok-keys.keys; states = c.in_ok-states.states; wait = c.args.members.wait } in
    all_sifted μ c.args.members.wait (λ x. apply f x (scope_around μ.answers e)) ms _ _ c.loop-key.under c.loop-key.kept.items h (c.loop-key.invariant.sifted f e ms C N G)
    (elim (c.in-None.ensures.steps) [ inl w ↦ inl w.1.0 | inr w ↦ inr (sym c.loop-key.key-iterator.b.rest.ok.0 ∙ w.1.0) ]) c.in_ok-keys.ensures.ok (ap (λ (v : Vec State Global). v.items) c.in_ok-states.ensures.ok) refl
