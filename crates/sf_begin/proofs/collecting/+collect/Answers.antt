use Rattle.std.proofs.Common.{◌≡◌, [], cond, refl}
use Rattle.sf_value.specs.declared.fault.Fault.TheVariants.{Memory}
use Rattle.sf_expr.specs.Arena.{expression, function_at}
use Rattle.sf_expr.specs.Evaluation.{answer, ◌>>=◌, eval, apply}
use Rattle.sf_law.specs.Arena.{plan_collection, plan_expressions, plan_tree}
use Rattle.sf_begin.specs.Contexts.{context_machine}
use Rattle.sf_mean.specs.Lives.{closure, scope_around}
use Rattle.sf_mean.specs.Formulas.{is_high}
use Rattle.sf_mean.specs.Collections.{as_key, add, drop, keep, collect}
use Rattle.sf_begin.specs.Beginning.{makes, makes_nothing}
use Rattle.sf_begin.specs.Collecting.{HasMembers}
use Rattle.sf_begin.proofs.Arguments.{made_failure}
use Rattle.sf_begin.proofs.Collected.{after_made, after_fault, first_chosen, second_chosen}
use Rattle.sf_begin.proofs.collecting.+collect.Goals as goal

pub returns-in_err-none-in-Empty : goal.returns-in_err-none-in-Empty
returns-in_err-none-in-Empty g t c = λ e N C. made_failure _ _ _ Memory c.from_residual.ensures.1 makes_nothing

pub returns-in_ok-none-in-Empty : goal.returns-in_ok-none-in-Empty
returns-in_ok-none-in-Empty g t c = λ e N C. rw c.in-Empty.is (makes refl (c.in_ok-none-in-Empty.ensures (context_machine g.R.Holds.answers c.args.context.now) []))

pub returns-in_err-of_name-in-Used : goal.returns-in_err-of_name-in-Used
returns-in_err-of_name-in-Used g t c = λ e N C. made_failure _ _ _ Memory c.from_residual-in_err-of_name-in-Used.ensures.1 makes_nothing

pub returns-in_ok-of_name-in-Used : goal.returns-in_ok-of_name-in-Used
returns-in_ok-of_name-in-Used g t c = λ e N C. rw c.in-Used.is (makes refl (c.in_ok-of_name-in-Used.ensures (g.R.Holds.answers c.args.context.now.functions.now) e N))

pub returns-in_err-members-in-Added : goal.returns-in_err-members-in-Added
returns-in_err-members-in-Added g t c = λ e N C.
    let μ = context_machine g.R.Holds.answers c.args.context.now in
    let i = c.in-Added.others.value in
    let j = expression (plan_expressions μ.plan) c.in-Added.field-1 in
    let t = plan_tree μ.plan c.in-Added.term in
    let coded = rw c.in-Added.is at C in
    let x = c.in_err-members-in-Added.field-0.0 in
    made_failure _ _ _ x c.from_residual-in_err-members-in-Added.ensures.1
    (rw c.in-Added.is (after_fault (HasMembers μ) (collect μ.answers (plan_collection μ.plan i) e) (λ ms. eval j (scope_around μ.answers e) >>= λ v. answer (add (as_key v) (closure t e) ms)) (HasMembers μ) x ((rw c.deref.ensures at c.in_err-members-in-Added.ensures) e N coded.0)))

pub returns-in_ok-members-in-Added : goal.returns-in_ok-members-in-Added
returns-in_ok-members-in-Added g t c = λ e N C.
    let μ = context_machine g.R.Holds.answers c.args.context.now in
    let i = c.in-Added.others.value in
    let j = expression (plan_expressions μ.plan) c.in-Added.field-1 in
    let t = plan_tree μ.plan c.in-Added.term in
    let coded = rw c.in-Added.is at C in
    rw c.in-Added.is (after_made (HasMembers μ) (collect μ.answers (plan_collection μ.plan i) e) (λ ms. eval j (scope_around μ.answers e) >>= λ v. answer (add (as_key v) (closure t e) ms)) (HasMembers μ) c.in_ok-members-in-Added.members c.with_added.result
    ((rw c.deref.ensures at c.in_ok-members-in-Added.ensures) e N coded.0) (λ ms G. c.with_added.ensures j e ms coded.1 N G))

pub returns-in_err-members-in-Dropped : goal.returns-in_err-members-in-Dropped
returns-in_err-members-in-Dropped g t c = λ e N C.
    let μ = context_machine g.R.Holds.answers c.args.context.now in
    let i = c.in-Dropped.all.value in
    let j = expression (plan_expressions μ.plan) c.in-Dropped.field-1 in
    let coded = rw c.in-Dropped.is at C in
    let x = c.in_err-members-in-Dropped.field-0.0 in
    made_failure _ _ _ x c.from_residual-in_err-members-in-Dropped.ensures.1
    (rw c.in-Dropped.is (after_fault (HasMembers μ) (collect μ.answers (plan_collection μ.plan i) e) (λ ms. eval j (scope_around μ.answers e) >>= λ v. answer (drop (as_key v) ms)) (HasMembers μ) x ((rw c.deref-in-Dropped.ensures at c.in_err-members-in-Dropped.ensures) e N coded.0)))

pub returns-in_ok-members-in-Dropped : goal.returns-in_ok-members-in-Dropped
returns-in_ok-members-in-Dropped g t c = λ e N C.
    let μ = context_machine g.R.Holds.answers c.args.context.now in
    let i = c.in-Dropped.all.value in
    let j = expression (plan_expressions μ.plan) c.in-Dropped.field-1 in
    let coded = rw c.in-Dropped.is at C in
    rw c.in-Dropped.is (after_made (HasMembers μ) (collect μ.answers (plan_collection μ.plan i) e) (λ ms. eval j (scope_around μ.answers e) >>= λ v. answer (drop (as_key v) ms)) (HasMembers μ) c.in_ok-members-in-Dropped.members c.without_dropped.result
    ((rw c.deref-in-Dropped.ensures at c.in_ok-members-in-Dropped.ensures) e N coded.0) (λ ms G. c.without_dropped.ensures j e ms coded.1 N G))

pub returns-in_err-members-in-Kept : goal.returns-in_err-members-in-Kept
returns-in_err-members-in-Kept g t c = λ e N C.
    let μ = context_machine g.R.Holds.answers c.args.context.now in
    let i = c.in-Kept.all.value in
    let f = function_at (plan_expressions μ.plan) c.in-Kept.field-1 in
    let coded = rw c.in-Kept.is at C in
    let x = c.in_err-members-in-Kept.field-0.0 in
    made_failure _ _ _ x c.from_residual-in_err-members-in-Kept.ensures.1
    (rw c.in-Kept.is (after_fault (HasMembers μ) (collect μ.answers (plan_collection μ.plan i) e) (λ ms. keep (λ x. apply f x (scope_around μ.answers e)) ms) (HasMembers μ) x ((rw c.deref-in-Kept.ensures at c.in_err-members-in-Kept.ensures) e N coded.0)))

pub returns-in_ok-members-in-Kept : goal.returns-in_ok-members-in-Kept
returns-in_ok-members-in-Kept g t c = λ e N C.
    let μ = context_machine g.R.Holds.answers c.args.context.now in
    let i = c.in-Kept.all.value in
    let f = function_at (plan_expressions μ.plan) c.in-Kept.field-1 in
    let coded = rw c.in-Kept.is at C in
    rw c.in-Kept.is (after_made (HasMembers μ) (collect μ.answers (plan_collection μ.plan i) e) (λ ms. keep (λ x. apply f x (scope_around μ.answers e)) ms) (HasMembers μ) c.in_ok-members-in-Kept.members c.keep_members.result
    ((rw c.deref-in-Kept.ensures at c.in_ok-members-in-Kept.ensures) e N coded.0) (λ ms G. c.keep_members.ensures f e ms coded.1 N G))

pub returns-in_err-met-in-Chosen : goal.returns-in_err-met-in-Chosen
returns-in_err-met-in-Chosen g t c = λ e N C.
    let μ = context_machine g.R.Holds.answers c.args.context.now in
    let j = expression (plan_expressions μ.plan) c.in-Chosen.field-0 in
    let one = collect μ.answers (plan_collection μ.plan c.in-Chosen.first.value) e in
    let other = collect μ.answers (plan_collection μ.plan c.in-Chosen.second.value) e in
    let coded = rw c.in-Chosen.is at C in
    let x = c.in_err-met-in-Chosen.field-0.0 in
    made_failure _ _ _ x c.from_residual-in_err-met-in-Chosen.ensures.1
    (rw c.in-Chosen.is (after_fault (HasMembers μ) (eval j (scope_around μ.answers e)) (λ v. cond (is_high v) one other) (λ b v. b ≡ is_high v) x (c.in_err-met-in-Chosen.ensures j e coded.0 N)))

pub returns-then-met : goal.returns-then-met
returns-then-met g t c = λ e N C.
    let μ = context_machine g.R.Holds.answers c.args.context.now in
    let j = expression (plan_expressions μ.plan) c.in-Chosen.field-0 in
    let one = collect μ.answers (plan_collection μ.plan c.in-Chosen.first.value) e in
    let other = collect μ.answers (plan_collection μ.plan c.in-Chosen.second.value) e in
    let coded = rw c.in-Chosen.is at C in
    rw c.in-Chosen.is (first_chosen μ (eval j (scope_around μ.answers e)) one other c.in_ok-met-in-Chosen.met _ (c.in_ok-met-in-Chosen.ensures j e coded.0 N) c.if-met.true ((rw c.deref-then-met.ensures at c.collect-then-met.ensures) e N coded.1))

pub returns-else-met : goal.returns-else-met
returns-else-met g t c = λ e N C.
    let μ = context_machine g.R.Holds.answers c.args.context.now in
    let j = expression (plan_expressions μ.plan) c.in-Chosen.field-0 in
    let one = collect μ.answers (plan_collection μ.plan c.in-Chosen.first.value) e in
    let other = collect μ.answers (plan_collection μ.plan c.in-Chosen.second.value) e in
    let coded = rw c.in-Chosen.is at C in
    rw c.in-Chosen.is (second_chosen μ (eval j (scope_around μ.answers e)) one other c.in_ok-met-in-Chosen.met _ (c.in_ok-met-in-Chosen.ensures j e coded.0 N) c.if-met.false ((rw c.deref-else-met.ensures at c.collect-else-met.ensures) e N coded.2))
