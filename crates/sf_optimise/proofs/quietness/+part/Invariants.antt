use Rattle.std.proofs.Common.{◌≡◌, ◌+◌, ◌*◌, drop}
use Rattle.sf_law.specs.Arena.{plan_trees}
use Rattle.sf_law.specs.Entries.{ids_end}
use Rattle.sf_optimise.specs.Lists.{all_quiet}
use Rattle.sf_optimise.proofs.quietness.+part.Given as goal

abbrev pub decreases-are_quiet : goal.decreases-are_quiet
decreases-are_quiet l = 2 * ids_end l.stages.now

abbrev pub decreases-is_quiet : goal.decreases-is_quiet
decreases-is_quiet l = 2 * l.id.0 + 1

abbrev pub invariant-are_quiet-loop-stage : goal.invariant-are_quiet-loop-stage
invariant-are_quiet-loop-stage l = record {
  left : all_quiet (plan_trees l.plan l.stages) ≡ all_quiet (plan_trees l.plan (drop l.stage-index l.stages));
}
