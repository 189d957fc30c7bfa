use Rattle.std.proofs.Common.{◌≡◌, length}
use Rattle.sf_optimise.specs.Making.{GrowsPlan}
use Rattle.sf_optimise.specs.Optimised.{HoldsPlans}
use Rattle.sf_optimise.proofs.optimising.rewritten_terms.Given as goal

abbrev pub invariant-loop-number : goal.invariant-loop-number
invariant-loop-number l = record {
  grows : GrowsPlan l.initial.plan l.plan;
  count : length l.plans.items ≡ l.number;
  plans : HoldsPlans l.program l.plan l.plans.items;
}
