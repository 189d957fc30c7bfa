use Rattle.std.proofs.lemmas.Result.{on_ok_weaker}
use Rattle.sf_code.specs.Around.{patterns_around}
use Rattle.sf_law.specs.Arena.{plan_expressions, plan_expression_at}
use Rattle.sf_law.proofs.Naming.{closed_mentions}
use Rattle.sf_law.proofs.mentioned.Mentioned.add_argument.Goals as goal

pub returns-in-Value-clause-added : goal.returns-in-Value-clause-added
returns-in-Value-clause-added c = λ coded.
    let k = rw c.in-Value.is at coded in
    rw c.in-Value.is
    (on_ok_weaker c.add_code.result (λ added x m. added x (closed_mentions (patterns_around (plan_expressions c.args.plan.now) c.in-Value.code.around) (plan_expression_at c.args.plan.now c.in-Value.field-0) x k.closed m)) c.add_code.ensures.added)

pub returns-in-Collected-clause-added : goal.returns-in-Collected-clause-added
returns-in-Collected-clause-added c = λ coded. rw c.in-Collected.is ((rw c.deref.ensures at c.add_collection.ensures.added) (rw c.in-Collected.is at coded))
