use Rattle.std.proofs.Common.{length, IsTrue, ◌⊎◌}
use Rattle.sf_value.specs.Values.{Name}
use Rattle.sf_law.specs.Arena.{plan_expressions}
use Rattle.sf_law.specs.Mentioned.{is_mentioned}
use Rattle.sf_law.proofs.Covering.{StagesMention}
use Rattle.sf_law.proofs.mentioned.Mentioned.add_parts.Given as goal

abbrev pub invariant-loop-rest : goal.invariant-loop-rest
invariant-loop-rest l = record {
  mentioned : (x : Name) → StagesMention l.plan l.initial.rest x → IsTrue (is_mentioned (plan_expressions l.plan) l.self x) ⊎ StagesMention l.plan l.rest x;
}

abbrev pub decreases-loop-rest : goal.decreases-loop-rest
decreases-loop-rest l = length l.rest
