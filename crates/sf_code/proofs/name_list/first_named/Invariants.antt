use Rattle.std.proofs.Common.{◌≡◌, drop}
use Rattle.sf_code.specs.Names.{value_named}
use Rattle.sf_code.specs.Listed.{listed}
use Rattle.sf_code.proofs.name_list.first_named.Given as goal

abbrev pub invariant-loop-named : goal.invariant-loop-named
invariant-loop-named l = value_named (listed (drop l.named-index l.values)) l.name ≡ value_named (listed l.values) l.name
