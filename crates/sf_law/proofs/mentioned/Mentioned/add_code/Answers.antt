use Rattle.std.proofs.Common.{IsTrue, sym, subst}
use Rattle.std.proofs.lemmas.Result.{on_ok_weaker}
use Rattle.sf_code.specs.declared.around.Around.{Around}
use Rattle.sf_code.specs.Around.{pattern_around}
use Rattle.sf_law.specs.Arena.{plan_expressions}
use Rattle.sf_law.specs.Mentioned.{binds_name}
use Rattle.sf_law.proofs.Naming.{alone_bound}
use Rattle.sf_law.proofs.mentioned.Mentioned.add_code.Goals as goal

pub returns-in-Some-clause-added : goal.returns-in-Some-clause-added
returns-in-Some-clause-added c =
    let e = plan_expressions c.args.plan.now in
    rw c.in-Some.is
    (on_ok_weaker c.add_around.result
    (λ added x h. added x (subst (λ (q : Around). IsTrue (binds_name (pattern_around e q) x)) (sym c.deref.ensures) (alone_bound (pattern_around e c.in-Some.around.value) x h)))
    c.add_around.ensures.added)
