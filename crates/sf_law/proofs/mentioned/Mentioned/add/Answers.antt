use Rattle.std.proofs.Common.{List, sym, subst, IsTrue}
use Rattle.sf_expr.specs.declared.exprs.NameId.{NameId}
use Rattle.sf_expr.specs.Arena.{name_at}
use Rattle.sf_law.specs.Arena.{plan_expressions}
use Rattle.sf_law.specs.Mentioned.{has_name}
use Rattle.sf_law.proofs.Naming.{pushed_there}
use Rattle.sf_law.proofs.mentioned.Mentioned.add.Goals as goal

pub returns-then-len-lt-MOST-clause-added : goal.returns-then-len-lt-MOST-clause-added
returns-then-len-lt-MOST-clause-added c =
    let e = plan_expressions c.args.plan.now in
    subst (λ (xs : List NameId). IsTrue (has_name e xs (name_at e c.args.name))) (sym c.in_ok-push-in-Names.ensures.items) (pushed_there e c.in-Names.names.items c.args.name)
