use Rattle.std.proofs.Common.{sym, ◌∙◌}
use Rattle.sf_refusal.specs.declared.rule.Rule.TheVariants.{Mismatch}
use Rattle.sf_expr.proofs.Judged.{stops_broken}
use Rattle.sf_check.proofs.Judging.{told_same, holds, fails}
use Rattle.sf_check.proofs.typing.same_members.Goals as goal

pub returns-then-are_members : goal.returns-then-are_members
returns-then-are_members c = holds Mismatch c.args.spot (sym (told_same _ _ _ c.are_members.ensures) ∙ c.if-are_members.true)

pub returns-else-are_members : goal.returns-else-are_members
returns-else-are_members c = stops_broken c.broken.ensures (fails Mismatch c.args.spot (sym (told_same _ _ _ c.are_members.ensures) ∙ c.if-are_members.false))
