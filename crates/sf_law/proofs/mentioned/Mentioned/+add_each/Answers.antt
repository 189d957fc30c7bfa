use Rattle.std.proofs.Common.{List, get_or, subst, IsTrue}
use Rattle.sf_expr.specs.declared.exprs.NameId.{NameId}
use Rattle.sf_expr.specs.Arena.{name_at}
use Rattle.sf_law.specs.Arena.{plan_expressions}
use Rattle.sf_law.specs.Mentioned.{has_name, is_mentioned}
use Rattle.sf_law.proofs.Naming.{by_first, first_or, ok_both}
use Rattle.sf_law.proofs.mentioned.Mentioned.+add_each.Goals as goal

pub returns-in_ok-add-in-len1-up-clause-added : goal.returns-in_ok-add-in-len1-up-clause-added
returns-in_ok-add-in-len1-up-clause-added t c =
    let e = plan_expressions c.args.plan.now in
    let none : NameId = record { 0 = 0 } in
    let f = get_or c.args.names.now 0 none in
    let m = c.add_each.new.self in
    let whole = by_first c.args.names.now none c.in-len1-up.len_at_least in
    ok_both c.add_each.result
    (λ kept added x k. first_or {A = λ y. IsTrue (is_mentioned e m y)} e f _ (kept (name_at e f) c.in_ok-add-in-len1-up.ensures.added) added x (subst (λ (xs : List NameId). IsTrue (has_name e xs x)) whole k))
    c.add_each.ensures.kept c.add_each.ensures.added
