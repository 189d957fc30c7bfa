use Rattle.sf_optimise.proofs.Forms.{ok_then}
use Rattle.sf_optimise.proofs.Made.{side_fused, side_added}
use Rattle.sf_optimise.proofs.making.on_a_side.Goals as goal

pub returns-in-Some-clause-ok : goal.returns-in-Some-clause-ok
returns-in-Some-clause-ok c = let found = rw c.in-Some.is at c.in_ok-chain.ensures in ok_then c.fused.result (λ a h. side_fused found h) c.fused.ensures.ok

pub returns-in-None-clause-ok : goal.returns-in-None-clause-ok
returns-in-None-clause-ok c = ok_then c.add.result (λ a h. side_added c.requires h) c.add.ensures.ok
