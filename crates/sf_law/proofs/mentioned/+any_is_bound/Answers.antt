use Rattle.std.proofs.Common.{List, get_or, sym, ◌∙◌, subst, IsTrue}
use Rattle.sf_expr.specs.declared.exprs.NameId.{NameId}
use Rattle.sf_expr.specs.Arena.{name_at}
use Rattle.sf_coincidence.specs.Mentions.{BindsOthers}
use Rattle.sf_law.specs.Arena.{plan_expressions}
use Rattle.sf_law.specs.Mentioned.{has_name, bound_pattern}
use Rattle.sf_law.proofs.Naming.{by_first, first_or, others}
use Rattle.sf_law.proofs.mentioned.+any_is_bound.Goals as goal

pub returns-else-binds : goal.returns-else-binds
returns-else-binds t c = λ h x k.
    let e = plan_expressions c.args.plan.now in
    let none : NameId = record { 0 = 0 } in
    let f = get_or c.args.names.now 0 none in
    let q = bound_pattern e c.args.binder in
    let whole = by_first c.args.names.now none c.in-len1-up.len_at_least in
    first_or {A = BindsOthers q} e f _ (others q (name_at e f) (sym c.binds.ensures ∙ c.if-binds.false)) (c.any_is_bound.ensures h) x
    (subst (λ (xs : List NameId). IsTrue (has_name e xs x)) whole k)
