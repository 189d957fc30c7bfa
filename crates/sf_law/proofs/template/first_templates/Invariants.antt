use Rattle.std.specs.HashMap.{get_by_text}
use Rattle.sf_value.specs.Values.{Name}
use Rattle.sf_law.proofs.Numbers.{FirstBelow}
use Rattle.sf_law.proofs.template.first_templates.Given as goal

abbrev pub invariant-loop-number : goal.invariant-loop-number
invariant-loop-number l = record {
  first : (x : Name) → FirstBelow l.templates x l.number (get_by_text l.numbers x);
}
