use Rattle.sf_optimise.proofs.Forms.{arrow_chain, fused_chain}
use Rattle.sf_optimise.proofs.making.chain_of.Goals as goal

pub returns-in_ok-new-in-Arrow : goal.returns-in_ok-new-in-Arrow
returns-in_ok-new-in-Arrow c = λ x k h. rw c.in-Arrow.is (arrow_chain c.in-Arrow.code c.in_ok-new-in-Arrow.ensures.ok c.in_ok-same-in-Arrow.ensures.cases (rw c.in-Arrow.is at k) (rw c.in-Arrow.is at h))

pub returns-in_ok-clone-in-Fused : goal.returns-in_ok-clone-in-Fused
returns-in_ok-clone-in-Fused c = λ x k h. rw c.in-Fused.is (fused_chain c.in-Fused.chain c.in_ok-clone-in-Fused.ensures.cases (rw c.in-Fused.is at k) (rw c.in-Fused.is at h))
