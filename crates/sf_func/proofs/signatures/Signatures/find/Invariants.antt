use Rattle.std.proofs.Common.{◌≡◌, ◌≤◌, map, length}
use Rattle.sf_func.specs.Registries.{types_named}
use Rattle.sf_func.specs.Signatures.{named_types, signatures_in}
use Rattle.sf_func.proofs.signatures.Signatures.find.Given as goal

abbrev pub invariant-loop-rest : goal.invariant-loop-rest
invariant-loop-rest l = record {
  within : length l.rest ≤ length l.initial.rest;
  found : types_named l.name (signatures_in l.self) ≡ types_named l.name (map named_types l.rest);
}

abbrev pub decreases-loop-rest : goal.decreases-loop-rest
decreases-loop-rest l = length l.rest
