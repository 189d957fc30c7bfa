use Rattle.std.proofs.Common.{◌≡◌}
use Rattle.sf_law.specs.Arena.{plan_expressions, node_count, plan_headers}
use Rattle.sf_law.proofs.Copied.{ShowsBelow}
use Rattle.sf_law.proofs.plain.copy_terms.Given as goal

abbrev pub invariant-loop-number : goal.invariant-loop-number
invariant-loop-number l = record {
  expressions : plan_expressions l.plan ≡ plan_expressions l.initial.plan;
  count : node_count l.plan ≡ l.number;
  headers : plan_headers l.plan ≡ plan_headers l.initial.plan;
  shows : ShowsBelow l.program l.plan l.number;
}
