use Rattle.std.proofs.Common.{length, All, IsTrue, ◌⊎◌}
use Rattle.sf_value.specs.Values.{Name}
use Rattle.sf_coincidence.specs.Mentions.{ArgumentsMention}
use Rattle.sf_law.specs.Arena.{plan_arguments, plan_expressions}
use Rattle.sf_law.specs.Entries.{IsCodedArgument}
use Rattle.sf_law.specs.Mentioned.{is_mentioned}
use Rattle.sf_law.proofs.mentioned.Mentioned.add_arguments.Given as goal

abbrev pub invariant-loop-rest : goal.invariant-loop-rest
invariant-loop-rest l = record {
  coded : All (IsCodedArgument (plan_expressions l.plan)) l.initial.rest → All (IsCodedArgument (plan_expressions l.plan)) l.rest;
  mentioned : All (IsCodedArgument (plan_expressions l.plan)) l.initial.rest → (x : Name) → ArgumentsMention (plan_arguments l.plan l.initial.rest) x → IsTrue (is_mentioned (plan_expressions l.plan) l.self x) ⊎ ArgumentsMention (plan_arguments l.plan l.rest) x;
}

abbrev pub decreases-loop-rest : goal.decreases-loop-rest
decreases-loop-rest l = length l.rest
