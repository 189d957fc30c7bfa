use Rattle.std.proofs.Common.{refl, sym, ◌∙◌}
use Rattle.sf_optimise.proofs.Made.{drops, composes, no_merge}
use Rattle.sf_optimise.proofs.sequence.merged.Goals as goal

pub returns-then-is_quiet-clause-ok : goal.returns-then-is_quiet-clause-ok
returns-then-is_quiet-clause-ok c = drops refl c.requires (c.is_constant.ensures c.if-is_constant.true) (sym c.is_quiet.ensures ∙ c.if-is_quiet.true)

pub returns-in_ok-fused-in-Some-clause-ok : goal.returns-in_ok-fused-in-Some-clause-ok
returns-in_ok-fused-in-Some-clause-ok c = let found = rw c.in-Some.is at c.in_ok-f.ensures in composes found c.in_ok-fused-in-Some.ensures.ok

pub returns-in-None-clause-ok : goal.returns-in-None-clause-ok
returns-in-None-clause-ok c = no_merge (rw c.in-None.is at c.in_ok-f.ensures)
