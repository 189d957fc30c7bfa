use Rattle.std.proofs.Common.{◌≡◌, get_or, Ok, sym, ap, ◌∙◌, subst, arith}
use Rattle.std.proofs.Math.ListN.{get_or-map}
use Rattle.sf_value.specs.Keys.{key_of}
use Rattle.sf_operator.specs.FunctionForms.{value_of_key}
use Rattle.sf_expr.specs.Evaluation.{apply}
use Rattle.sf_mean.specs.Lives.{scope_around}
use Rattle.sf_mean.specs.Formulas.{is_high}
use Rattle.sf_law.specs.Arena.{plan_expressions}
use Rattle.sf_begin.specs.Contexts.{context_machine}
use Rattle.sf_code.specs.Worth.{frame_around}
use Rattle.sf_state.proofs.Scopes.{functions_around, scope_is}
use Rattle.sf_begin.specs.Beginning.{Makes}
use Rattle.sf_begin.proofs.Collected.{coded_over}
use Rattle.sf_begin.proofs.Drafts.{all_next, kept_on, taken_out, all_left}
use Rattle.sf_begin.proofs.drafting.without_unkept.Goals as goal

pub loop-at-init : goal.loop-at-init
loop-at-init g c = record {
  left_over = λ f e bs w ms C N G.
      let μ = context_machine g.R.Holds.answers c.args.context.now in
      all_next μ bs w (λ x. apply f x (scope_around μ.answers e)) ms c.args.made G;
}

pub returns : goal.returns
returns g c = λ f e bs w ms C N G.
    let μ = context_machine g.R.Holds.answers c.args.context.now in
    all_left μ bs w (λ x. apply f x (scope_around μ.answers e)) ms c.loop-at.left c.loop-at.at (c.loop-at.invariant.left_over f e bs w ms C N G) (omega arith)

pub loop-at-preserved-then-stays : goal.loop-at-preserved-then-stays
loop-at-preserved-then-stays g c =
    let k = key_of c.index-all-at.result in
    let is : k ≡ get_or c.loop-at.left.keys c.loop-at.at k = ap key_of c.index-all-at.is ∙ sym (get_or-map key_of c.all.result.now c.loop-at.at c.index-all-at.result) ∙ ap (λ ks. get_or ks c.loop-at.at k) c.all.ensures.keys in
    record {
      left_over = λ f e bs w ms C N G.
          let μ = context_machine g.R.Holds.answers c.args.context.now in
          let told = subst (λ b. Makes (λ b v. b ≡ is_high v) (apply f (value_of_key k) (scope_around μ.answers e)) (Ok b)) c.if-stays.true (c.in_ok-stays.ensures f (scope_around μ.answers e) (functions_around μ.answers e) (coded_over C (scope_around μ.answers e) _ (c.in_ok-around.ensures μ.answers ∙ ap (frame_around (plan_expressions μ.plan) c.args.code.now.around) (scope_is μ c.args.names.now e N)))) in
          kept_on μ bs w (λ x. apply f x (scope_around μ.answers e)) ms c.loop-at.left c.loop-at.at k (c.loop-at.invariant.left_over f e bs w ms C N G) (omega arith) is told;
    }

pub loop-at-preserved : goal.loop-at-preserved
loop-at-preserved g c =
    let k = key_of c.index-all-at.result in
    let is : k ≡ get_or c.loop-at.left.keys c.loop-at.at k = ap key_of c.index-all-at.is ∙ sym (get_or-map key_of c.all.result.now c.loop-at.at c.index-all-at.result) ∙ ap (λ ks. get_or ks c.loop-at.at k) c.all.ensures.keys in
    record {
      left_over = λ f e bs w ms C N G.
          let μ = context_machine g.R.Holds.answers c.args.context.now in
          let told = subst (λ b. Makes (λ b v. b ≡ is_high v) (apply f (value_of_key k) (scope_around μ.answers e)) (Ok b)) c.if-stays.false (c.in_ok-stays.ensures f (scope_around μ.answers e) (functions_around μ.answers e) (coded_over C (scope_around μ.answers e) _ (c.in_ok-around.ensures μ.answers ∙ ap (frame_around (plan_expressions μ.plan) c.args.code.now.around) (scope_is μ c.args.names.now e N)))) in
          taken_out μ bs w (λ x. apply f x (scope_around μ.answers e)) ms c.loop-at.left c.loop-at.at k (c.loop-at.invariant.left_over f e bs w ms C N G) (omega arith) is c.take.new.left c.in_ok-take.ensures.keys c.in_ok-take.ensures.changes told;
    }
