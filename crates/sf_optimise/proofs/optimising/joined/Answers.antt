use Rattle.sf_optimise.proofs.Forms.{ok_then}
use Rattle.sf_optimise.proofs.Rewritten.{sequence_makes}
use Rattle.sf_optimise.proofs.optimising.joined.Goals as goal

pub returns-in-InSequence-clause-ok : goal.returns-in-InSequence-clause-ok
returns-in-InSequence-clause-ok c = rw c.in-InSequence.is (ok_then c.in_sequence.result (λ a h. sequence_makes h) c.in_sequence.ensures.ok)
