use Rattle.sf_optimise.proofs.Forms.{ok_then}
use Rattle.sf_optimise.proofs.Made.{fan_fused, fan_added}
use Rattle.sf_optimise.proofs.making.fanned_out.Goals as goal

pub returns-in-Some-clause-ok : goal.returns-in-Some-clause-ok
returns-in-Some-clause-ok c = let found = rw c.in-Some.is at c.in_ok-f.ensures in ok_then c.fused.result (λ a h. fan_fused found h) c.fused.ensures.ok

pub returns-in-None-clause-ok : goal.returns-in-None-clause-ok
returns-in-None-clause-ok c = ok_then c.add.result (λ a h. fan_added c.requires.first c.requires.second h) c.add.ensures.ok
