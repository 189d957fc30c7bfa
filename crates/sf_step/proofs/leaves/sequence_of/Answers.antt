use Rattle.sf_step.proofs.Behind.{parts_of_join, parts_of_pipeline}
use Rattle.sf_step.proofs.leaves.sequence_of.Goals as goal

pub returns-in-InSequence : goal.returns-in-InSequence
returns-in-InSequence c = parts_of_join _ _ _ _ (rw c.in-InSequence.is at (rw c.in-Joined.is at c.node.ensures.builds))

pub returns-in-Pipeline : goal.returns-in-Pipeline
returns-in-Pipeline c = parts_of_pipeline _ c.in-Pipeline.stages _ _ (rw c.deref.ensures.value at c.two_of.ensures.present) (rw c.in-Pipeline.is at c.node.ensures.builds)
