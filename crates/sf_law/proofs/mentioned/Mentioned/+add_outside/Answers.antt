use Rattle.std.proofs.Common.{◌≡◌, false, List, get_or, sym, subst, IsTrue, ◌∙◌}
use Rattle.sf_expr.specs.declared.exprs.NameId.{NameId}
use Rattle.sf_expr.specs.Arena.{name_at}
use Rattle.sf_coincidence.specs.Mentions.{BindsOthers}
use Rattle.sf_law.specs.Arena.{plan_expressions}
use Rattle.sf_law.specs.Mentioned.{has_name, is_mentioned, bound_pattern}
use Rattle.sf_law.proofs.Naming.{by_first, first_or, ok_both, not_bound}
use Rattle.sf_law.proofs.mentioned.Mentioned.+add_outside.Goals as goal
use Rattle.sf_law.proofs.mentioned.Mentioned.+add_outside.Goals.{then-not-binds+in_ok-add-in-len1-up, else-not-binds}

pub returns-after-not-binds-clause-added : goal.returns-after-not-binds-clause-added
returns-after-not-binds-clause-added t c =
    let e = plan_expressions c.args.plan.now in
    let none : NameId = record { 0 = 0 } in
    let f = get_or c.args.names.now 0 none in
    let q = bound_pattern e c.args.binder in
    let m = c.add_outside.new.self in
    let whole = by_first c.args.names.now none c.in-len1-up.len_at_least in
    let here : BindsOthers q (name_at e f) → IsTrue (is_mentioned e c.if-not-binds.self (name_at e f)) =
    elim c.if-not-binds.branch [
      | then-not-binds+in_ok-add-in-len1-up w ↦ λ free. subst (λ k. IsTrue (is_mentioned e k (name_at e f))) (sym w.self-is) w.in_ok-add-in-len1-up.ensures.added
      | else-not-binds w ↦ λ free. absurd (let a : c.binds.result ≡ false = c.binds.ensures ∙ not_bound q (name_at e f) free in let b = w.if-not-binds.false in cc)
    ] in
    ok_both c.add_outside.result
    (λ kept added x k. first_or {A = λ y. BindsOthers q y → IsTrue (is_mentioned e m y)} e f _ (λ free. kept (name_at e f) (here free)) added x (subst (λ (xs : List NameId). IsTrue (has_name e xs x)) whole k))
    c.add_outside.ensures.kept c.add_outside.ensures.added
