use Rattle.std.proofs.Common.{subst, IsTrue, ⊎_elim}
use Rattle.std.proofs.lemmas.Result.{on_ok_weaker}
use Rattle.sf_expr.specs.Arena.{function_at}
use Rattle.sf_code.specs.Around.{patterns_around}
use Rattle.sf_law.specs.Arena.{plan_expressions, plan_expression_at}
use Rattle.sf_law.specs.Mentioned.{is_mentioned}
use Rattle.sf_law.proofs.Naming.{closed_mentions, function_mentions, ok_both}
use Rattle.sf_law.proofs.mentioned.Mentioned.+add_collection.Goals as goal

pub returns-in-Empty-clause-added : goal.returns-in-Empty-clause-added
returns-in-Empty-clause-added t c = λ coded. rw c.in-Empty.is (λ x h. absurd h)

pub returns-in-Used-clause-added : goal.returns-in-Used-clause-added
returns-in-Used-clause-added t c = λ coded.
    rw c.in-Used.is (on_ok_weaker c.add.result (λ added x same. subst (λ y. IsTrue (is_mentioned (plan_expressions c.args.plan.now) c.add.new.self y)) same added) c.add.ensures.added)

pub returns-in_ok-add_code-in-Added-clause-added : goal.returns-in_ok-add_code-in-Added-clause-added
returns-in_ok-add_code-in-Added-clause-added t c = λ coded.
    let i = c.in-Added in
    let k = rw i.is at coded in
    let members = rw c.deref.ensures at c.in_ok-add_collection-in-Added.ensures.added in
    let key = c.in_ok-add_code-in-Added.ensures in
    let e = plan_expression_at c.args.plan.now i.field-1 in
    rw i.is
    (ok_both c.add_part.result
    (λ kept added x h. ⊎_elim (λ j. kept x (key.kept x (members k.0 x j))) (λ j. ⊎_elim (λ n. kept x (key.added x (closed_mentions (patterns_around (plan_expressions c.args.plan.now) i.code.around) e x k.1.closed n))) (λ n. added x (c.requires i.term x n)) j) h)
    c.add_part.ensures.kept c.add_part.ensures.added)

pub returns-in_ok-add_collection-in-Dropped-clause-added : goal.returns-in_ok-add_collection-in-Dropped-clause-added
returns-in_ok-add_collection-in-Dropped-clause-added t c = λ coded.
    let i = c.in-Dropped in
    let k = rw i.is at coded in
    let members = rw c.deref-in-Dropped.ensures at c.in_ok-add_collection-in-Dropped.ensures.added in
    rw i.is
    (ok_both c.add_code-in-Dropped.result
    (λ kept added x h. ⊎_elim (λ j. kept x (members k.0 x j)) (λ j. added x (closed_mentions (patterns_around (plan_expressions c.args.plan.now) i.code.around) (plan_expression_at c.args.plan.now i.field-1) x k.1.closed j)) h)
    c.add_code-in-Dropped.ensures.kept c.add_code-in-Dropped.ensures.added)

pub returns-in_ok-add_collection-in-Kept-clause-added : goal.returns-in_ok-add_collection-in-Kept-clause-added
returns-in_ok-add_collection-in-Kept-clause-added t c = λ coded.
    let i = c.in-Kept in
    let k = rw i.is at coded in
    let members = rw c.deref-in-Kept.ensures at c.in_ok-add_collection-in-Kept.ensures.added in
    rw i.is
    (ok_both c.add_code-in-Kept.result
    (λ kept added x h. ⊎_elim (λ j. kept x (members k.0 x j)) (λ j. added x (function_mentions (patterns_around (plan_expressions c.args.plan.now) i.code.around) (function_at (plan_expressions c.args.plan.now) i.field-1) x k.1.closed j)) h)
    c.add_code-in-Kept.ensures.kept c.add_code-in-Kept.ensures.added)

pub returns-in_ok-add_collection-in-Chosen-clause-added : goal.returns-in_ok-add_collection-in-Chosen-clause-added
returns-in_ok-add_collection-in-Chosen-clause-added t c = λ coded.
    let i = c.in-Chosen in
    let k = rw i.is at coded in
    let test = c.in_ok-add_code-in-Chosen.ensures in
    let first = rw c.deref-in-Chosen.ensures at c.in_ok-add_collection-in-Chosen.ensures.added in
    let passed = c.in_ok-add_collection-in-Chosen.ensures.kept in
    let second = rw c.deref-in-Chosen-2.ensures at c.add_collection-in-Chosen-2.ensures.added in
    let e = plan_expression_at c.args.plan.now i.field-0 in
    rw i.is
    (ok_both c.add_collection-in-Chosen-2.result
    (λ kept added x h. ⊎_elim (λ j. kept x (passed x (test.added x (closed_mentions (patterns_around (plan_expressions c.args.plan.now) i.code.around) e x k.0.closed j)))) (λ j. ⊎_elim (λ n. kept x (first k.1 x n)) (λ n. added x n) j) h)
    c.add_collection-in-Chosen-2.ensures.kept (second k.2))
