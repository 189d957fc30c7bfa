use Rattle.std.proofs.Common.{◌≡◌, Option, Some, Ok, refl, sym, ap, ◌∙◌, subst}
use Rattle.std.specs.declared.alloc.Global.{Global}
use Rattle.std.specs.declared.rc.Rc.{Rc}
use Rattle.sf_code.specs.declared.open.OpenCode.{OpenCode}
use Rattle.sf_value.specs.Values.{pair}
use Rattle.sf_term.specs.declared.form.Join.TheVariants.{InSequence}
use Rattle.sf_mean.specs.Lives.{step, first_input}
use Rattle.sf_law.specs.Arena.{plan_node_at, node_arrow}
use Rattle.sf_state.specs.Standing.{behind_arrow, Ready}
use Rattle.sf_begin.specs.Contexts.{context_machine, plan_in}
use Rattle.sf_step.specs.Answering.{LiveSteps}
use Rattle.sf_step.proofs.Parts.{pass_valued}
use Rattle.sf_step.proofs.Exits.{join_left_fails, join_right_fails, join_steps, same_code}
use Rattle.sf_step.proofs.leaves.step_mapped_beside.Goals as goal

pub returns-in_err-value : goal.returns-in_err-value
returns-in_err-value g c = λ own is m depth t P L R.
    let μ = context_machine g.R.Holds.answers c.args.context.now in
    let node = c.node.ensures.value ∙ ap (λ i. plan_node_at (plan_in c.args.context.now) i) c.id.ensures in
    let same : c.in-Some.code.now ≡ own = same_code (c.in-Some.ensures ∙ ap (λ n. node_arrow n) node ∙ is) in
    let x = pair c.args.both.input.now c.args.both.given.now in
    pass_valued _ _ c.from_residual.ensures.0 (join_left_fails μ InSequence _ _ c.args.meter.now c.count_and_map_beside.new.meter c.args.inside c.args.context.now.dt x x refl
    _ c.in_err-value.ensures m depth t P L (subst (λ (a : Rc OpenCode Global). Ready μ (behind_arrow a c.args.prim.now) P (first_input (step c.args.context.now.dt x) L) L) (sym same) R))

pub returns-in_err-count_and_step : goal.returns-in_err-count_and_step
returns-in_err-count_and_step g c = λ own is m depth t P L R.
    let μ = context_machine g.R.Holds.answers c.args.context.now in
    let node = c.node.ensures.value ∙ ap (λ i. plan_node_at (plan_in c.args.context.now) i) c.id.ensures in
    let same : c.in-Some.code.now ≡ own = same_code (c.in-Some.ensures ∙ ap (λ n. node_arrow n) node ∙ is) in
    let x = pair c.args.both.input.now c.args.both.given.now in
    pass_valued _ _ c.from_residual-in_err-count_and_step.ensures.0 (join_right_fails μ InSequence _ _ c.args.meter.now c.count_and_map_beside.new.meter c.args.inside c.args.context.now.dt x x refl
    _ c.in_ok-value.value c.in_ok-value.value refl c.in_ok-value.ensures c.count_and_step.new.meter
    _ c.in_err-count_and_step.ensures m depth t P L (subst (λ (a : Rc OpenCode Global). Ready μ (behind_arrow a c.args.prim.now) P (first_input (step c.args.context.now.dt x) L) L) (sym same) R))

pub returns : goal.returns
returns g c = λ own is.
    let μ = context_machine g.R.Holds.answers c.args.context.now in
    let node = c.node.ensures.value ∙ ap (λ i. plan_node_at (plan_in c.args.context.now) i) c.id.ensures in
    let same : c.in-Some.code.now ≡ own = same_code (c.in-Some.ensures ∙ ap (λ n. node_arrow n) node ∙ is) in
    let x = pair c.args.both.input.now c.args.both.given.now in
    let last = c.count_and_step in
    subst (λ (a : Rc OpenCode Global). LiveSteps μ (behind_arrow a c.args.prim.now) (step c.args.context.now.dt x)
    (Ok (behind_arrow a last.new.prim, last.new.value)) c.args.meter.now last.new.meter c.args.inside) same
    (join_steps μ InSequence _ _ c.args.meter.now c.count_and_map_beside.new.meter c.args.inside c.args.context.now.dt x x refl
    _ c.in_ok-value.value c.in_ok-value.value refl c.in_ok-value.ensures
    last.new.meter _ last.new.value last.new.value refl c.in_ok-count_and_step.ensures)
