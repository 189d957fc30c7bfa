use Rattle.std.proofs.Common.{Some, ap}
use Rattle.std.specs.Option.{unwrap_or}
use Rattle.sf_expr.specs.Arena.{expression, function_at}
use Rattle.sf_expr.specs.Evaluation.{answer, ◌>>=◌, eval, apply}
use Rattle.sf_law.specs.Arena.{plan_collection, plan_expressions, plan_tree}
use Rattle.sf_begin.specs.Contexts.{context_machine}
use Rattle.sf_mean.specs.Lives.{closure, scope_around}
use Rattle.sf_mean.specs.Collections.{as_key, add, drop, keep, collect}
use Rattle.sf_begin.specs.Beginning.{makes}
use Rattle.sf_begin.specs.Drafting.{drafted, around_edit}
use Rattle.sf_begin.proofs.Drafts.{all_laid, after_laid, when_drafted, laid_first, laid_second}
use Rattle.sf_begin.proofs.drafting.+draft_of.Goals as goal

pub returns-then-is_own : goal.returns-then-is_own
returns-then-is_own g t c = λ fs v e N C G.
    let μ = context_machine g.R.Holds.answers c.args.context.now in
    let run = c.args.editing.now.members in
    let own = c.is_own.ensures c.if-is_own.true v fs e in
    rw c.in-Used.is (makes (ap answer own) (all_laid μ run c.args.context.now.dt c.in_ok-unchanged-in-Used.field-0 c.in_ok-unchanged-in-Used.ensures.keys c.in_ok-unchanged-in-Used.ensures.changes G))

pub returns-in_ok-with_added-in-Some : goal.returns-in_ok-with_added-in-Some
returns-in_ok-with_added-in-Some g t c = λ fs v e N C G.
    let μ = context_machine g.R.Holds.answers c.args.context.now in
    let d = c.args.context.now.dt in
    let run = c.args.editing.now.members in
    let bs = run.states.value.items in
    let w = Some (unwrap_or run.wait d) in
    let a = around_edit μ.plan c.args.editing.now v fs e in
    let i = c.in-Added.others.value in
    let j = expression (plan_expressions μ.plan) c.in-Added.field-1 in
    let t = plan_tree μ.plan c.in-Added.term in
    let coded = rw c.in-Added.is at C in
    rw c.in-Added.is (after_laid μ bs w (collect μ.answers (plan_collection μ.plan i) a) (λ ms. eval j (scope_around μ.answers a) >>= λ v. answer (add (as_key v) (closure t a) ms)) (drafted run d c.in-Some.made) (drafted run d c.in_ok-with_added-in-Some.field-0)
    ((rw c.deref.ensures at (rw c.in-Some.is at c.in_ok-made-in-Added.ensures)) fs v e N coded.0 G) (λ ms H. c.in_ok-with_added-in-Some.ensures j a bs w ms coded.1 N H))

pub returns-in_ok-without_dropped-in-Some-2 : goal.returns-in_ok-without_dropped-in-Some-2
returns-in_ok-without_dropped-in-Some-2 g t c = λ fs v e N C G.
    let μ = context_machine g.R.Holds.answers c.args.context.now in
    let d = c.args.context.now.dt in
    let run = c.args.editing.now.members in
    let bs = run.states.value.items in
    let w = Some (unwrap_or run.wait d) in
    let a = around_edit μ.plan c.args.editing.now v fs e in
    let i = c.in-Dropped.all.value in
    let j = expression (plan_expressions μ.plan) c.in-Dropped.field-1 in
    let coded = rw c.in-Dropped.is at C in
    rw c.in-Dropped.is (after_laid μ bs w (collect μ.answers (plan_collection μ.plan i) a) (λ ms. eval j (scope_around μ.answers a) >>= λ v. answer (drop (as_key v) ms)) (drafted run d c.in-Some-2.made) (drafted run d c.in_ok-without_dropped-in-Some-2.field-0)
    ((rw c.deref-in-Dropped.ensures at (rw c.in-Some-2.is at c.in_ok-made-in-Dropped.ensures)) fs v e N coded.0 G) (λ ms H. c.in_ok-without_dropped-in-Some-2.ensures j a bs w ms coded.1 N H))

pub returns-in-Some-3 : goal.returns-in-Some-3
returns-in-Some-3 g t c = when_drafted c.without_unkept.result (λ x h fs v e N C G.
    let μ = context_machine g.R.Holds.answers c.args.context.now in
    let d = c.args.context.now.dt in
    let run = c.args.editing.now.members in
    let bs = run.states.value.items in
    let w = Some (unwrap_or run.wait d) in
    let a = around_edit μ.plan c.args.editing.now v fs e in
    let i = c.in-Kept.all.value in
    let f = function_at (plan_expressions μ.plan) c.in-Kept.field-1 in
    let coded = rw c.in-Kept.is at C in
    rw c.in-Kept.is (after_laid μ bs w (collect μ.answers (plan_collection μ.plan i) a) (λ ms. keep (λ x. apply f x (scope_around μ.answers a)) ms) (drafted run d c.in-Some-3.made) (drafted run d x)
    ((rw c.deref-in-Kept.ensures at (rw c.in-Some-3.is at c.in_ok-made-in-Kept.ensures)) fs v e N coded.0 G) (λ ms H. h f a bs w ms coded.1 N H)))
    c.without_unkept.ensures

pub returns-then-met : goal.returns-then-met
returns-then-met g t c = when_drafted c.draft_of-then-met.result (λ x h fs v e N C G.
    let μ = context_machine g.R.Holds.answers c.args.context.now in
    let a = around_edit μ.plan c.args.editing.now v fs e in
    let j = expression (plan_expressions μ.plan) c.in-Chosen.field-0 in
    let one = collect μ.answers (plan_collection μ.plan c.in-Chosen.first.value) a in
    let other = collect μ.answers (plan_collection μ.plan c.in-Chosen.second.value) a in
    let coded = rw c.in-Chosen.is at C in
    rw c.in-Chosen.is (laid_first μ (eval j (scope_around μ.answers a)) one other c.in_ok-met-in-Chosen.met (drafted c.args.editing.now.members c.args.context.now.dt x) (c.in_ok-met-in-Chosen.ensures j a coded.0 N) c.if-met.true (h fs v e N coded.1 G)))
    (rw c.deref-then-met.ensures at c.draft_of-then-met.ensures)

pub returns-else-met : goal.returns-else-met
returns-else-met g t c = when_drafted c.draft_of-else-met.result (λ x h fs v e N C G.
    let μ = context_machine g.R.Holds.answers c.args.context.now in
    let a = around_edit μ.plan c.args.editing.now v fs e in
    let j = expression (plan_expressions μ.plan) c.in-Chosen.field-0 in
    let one = collect μ.answers (plan_collection μ.plan c.in-Chosen.first.value) a in
    let other = collect μ.answers (plan_collection μ.plan c.in-Chosen.second.value) a in
    let coded = rw c.in-Chosen.is at C in
    rw c.in-Chosen.is (laid_second μ (eval j (scope_around μ.answers a)) one other c.in_ok-met-in-Chosen.met (drafted c.args.editing.now.members c.args.context.now.dt x) (c.in_ok-met-in-Chosen.ensures j a coded.0 N) c.if-met.false (h fs v e N coded.2 G)))
    (rw c.deref-else-met.ensures at c.draft_of-else-met.ensures)
