use Rattle.std.proofs.Common.{◌≡◌, ◌≤◌, length}
use Rattle.sf_expr.specs.Meanings.{found_in}
use Rattle.sf_expr.specs.Scopes.{entries_around, entries_along}
use Rattle.sf_expr.proofs.scope.TypeScope.stands_for.Given as goal

abbrev pub invariant-loop-rest : goal.invariant-loop-rest
invariant-loop-rest l = record {
  within : length l.rest ≤ length l.initial.rest;
  same : found_in l.name (entries_around l.self) ≡ found_in l.name (entries_along l.rest);
}

abbrev pub decreases-loop-rest : goal.decreases-loop-rest
decreases-loop-rest l = length l.rest
