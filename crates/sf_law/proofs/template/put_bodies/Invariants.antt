use Rattle.std.proofs.Common.{◌≡◌, ◌++◌, map, take, drop}
use Rattle.sf_law.specs.Headers.{rebodied}
use Rattle.sf_law.proofs.template.put_bodies.Given as goal

abbrev pub invariant-loop-number : goal.invariant-loop-number
invariant-loop-number l = record {
  put : l.templates.items ≡ map (rebodied l.bodies l.passing.0) (take l.number l.initial.templates.items) ++ drop l.number l.initial.templates.items;
}
