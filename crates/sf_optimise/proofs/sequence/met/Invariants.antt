use Rattle.std.proofs.Common.{vec_len}
use Rattle.sf_optimise.proofs.Boundary.{MetSoFar}
use Rattle.sf_optimise.proofs.sequence.met.Given as goal

abbrev pub invariant-loop-last : goal.invariant-loop-last
invariant-loop-last l = record {
  met : MetSoFar l.fn.plan l.fn.stages.items l.fn.stage l.plan l.stages.items l.head;
}

abbrev pub decreases-loop-last : goal.decreases-loop-last
decreases-loop-last l = vec_len l.stages
