use Rattle.std.proofs.Common.{◌≡◌, true, IsTrue, sym, subst, inl, inr, ⊎_elim}
use Rattle.std.specs.Prelude.{is_some, OnOk}
use Rattle.std.proofs.lemmas.Result.{on_ok_weaker}
use Rattle.sf_value.specs.Values.{Name}
use Rattle.sf_expr.specs.Expressions.{Expression}
use Rattle.sf_expr.specs.Arena.{expression, function_at}
use Rattle.sf_code.specs.declared.open.OpenCode.{OpenCode}
use Rattle.sf_code.specs.Compiling.{place_of_name}
use Rattle.sf_code.specs.Around.{patterns_around}
use Rattle.sf_code.specs.Worth.{IsCodeOf}
use Rattle.sf_coincidence.specs.Mentions.{ExpressionMentions}
use Rattle.sf_law.specs.Arena.{plan_expressions}
use Rattle.sf_law.specs.Mentioned.{is_mentioned}
use Rattle.sf_law.proofs.Naming.{closed_mentions, function_mentions, ok_both}
use Rattle.sf_law.proofs.mentioned.Mentioned.add_primitive.Goals as goal

pub returns-in-Arrow : goal.returns-in-Arrow
returns-in-Arrow c = λ coded.
    let x = plan_expressions c.args.plan.now in
    let k = rw c.in-Arrow.is at coded in
    let around = patterns_around x c.in-Arrow.code.value.around in
    rw c.in-Arrow.is
    (on_ok_weaker c.add_code.result
    (λ added y m. added y (subst (λ (o : OpenCode). is_some (place_of_name y (patterns_around x o.around)) ≡ true) (sym c.deref.ensures) (function_mentions around (function_at x c.in-Arrow.field-0) y k.closed m)))
    c.add_code.ensures.added)

pub returns-in-Fused : goal.returns-in-Fused
returns-in-Fused c = λ coded. rw c.in-Fused.is ((rw c.deref-in-Fused.ensures at c.add_chain.ensures.added) (rw c.in-Fused.is at coded))

pub returns-in_ok-add_code-in-Accumulated : goal.returns-in_ok-add_code-in-Accumulated
returns-in_ok-add_code-in-Accumulated c = λ coded.
    let x = plan_expressions c.args.plan.now in
    let k = rw c.in-Accumulated.is at coded in
    let around = patterns_around x c.in-Accumulated.code.value.around in
    rw c.in-Accumulated.is
    (ok_both c.add_code-in-Accumulated-2.result
    (λ kept added y m. ⊎_elim (λ h. kept y (c.in_ok-add_code-in-Accumulated.ensures.added y (closed_mentions (patterns_around x c.in-Accumulated.start.around) (expression x c.in-Accumulated.field-1) y k.0.closed h)))
    (λ h. added y (subst (λ (o : OpenCode). is_some (place_of_name y (patterns_around x o.around)) ≡ true) (sym c.deref-in-Accumulated.ensures) (function_mentions around (function_at x c.in-Accumulated.field-3) y k.1.closed h))) m)
    c.add_code-in-Accumulated-2.ensures.kept c.add_code-in-Accumulated-2.ensures.added)

pub returns-in-WithValue : goal.returns-in-WithValue
returns-in-WithValue c = λ coded.
    let x = plan_expressions c.args.plan.now in
    let o = c.in-WithValue.code in
    let m = c.add_code-in-WithValue.new.self in
    let finish : (e : Expression) → IsCodeOf x e o → OnOk c.add_code-in-WithValue.result ((y : Name) → ExpressionMentions e y → IsTrue (is_mentioned x m y)) =
    λ e k. on_ok_weaker c.add_code-in-WithValue.result (λ added y h. added y (closed_mentions (patterns_around x o.around) e y k.closed h)) c.add_code-in-WithValue.ensures.added in
    elim c.in-WithValue.is [ inl w ↦ rw w.2 (finish _ (rw w.2 at coded)) | inr w ↦ rw w.3 (finish _ (rw w.3 at coded)) ]
