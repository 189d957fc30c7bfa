use Rattle.std.proofs.Common.{◌∙◌, sym, ap, refl}
use Rattle.std.specs.List.{list_any}
use Rattle.std.specs.Str.{bytes_eq}
use Rattle.sf_refusal.specs.declared.rule.Rule.TheVariants.{DuplicateName}
use Rattle.sf_refusal.proofs.Explained.{breaks_at, memory_on}
use Rattle.sf_check.specs.Names.{names_of_set}
use Rattle.sf_check.proofs.Naming.{present, absent}
use Rattle.sf_check.proofs.names.add_name.Goals as goal

pub returns-in_err-owned-clause-refused : goal.returns-in_err-owned-clause-refused
returns-in_err-owned-clause-refused c = memory_on _ _ c.from_residual.ensures.1

pub returns-in_err-insert-clause-refused : goal.returns-in_err-insert-clause-refused
returns-in_err-insert-clause-refused c = memory_on _ _ c.from_residual-in_err-insert.ensures.1

pub returns-then-branch-clause-new : goal.returns-then-branch-clause-new
returns-then-branch-clause-new c =
    ap (λ x. list_any (bytes_eq x) (names_of_set c.args.names.now)) (sym c.in_ok-owned.ensures.ok) ∙ absent c.args.names.now c.in_ok-owned.owned _ c.in_ok-insert.ensures.added c.if-branch.true

pub returns-else-branch-clause-refused : goal.returns-else-branch-clause-refused
returns-else-branch-clause-refused c =
    let old = ap (λ x. list_any (bytes_eq x) (names_of_set c.args.names.now)) (sym c.in_ok-owned.ensures.ok) ∙ present c.args.names.now c.in_ok-owned.owned _ c.in_ok-insert.ensures.added c.if-branch.false in
    breaks_at DuplicateName c.broken.ensures refl (refl, old)
