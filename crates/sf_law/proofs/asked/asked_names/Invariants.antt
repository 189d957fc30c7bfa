use Rattle.std.proofs.Common.{◌<◌}
use Rattle.sf_value.specs.Values.{Name}
use Rattle.sf_law.specs.Arena.{IsAsked, AsksOnly}
use Rattle.sf_law.proofs.asked.asked_names.Given as goal

abbrev pub invariant-loop : goal.invariant-loop
invariant-loop l = record {
  only : AsksOnly l.plan l.asked;
  some : 0 < l.counter → (x : Name) × IsAsked l.plan x;
}
