use Rattle.std.proofs.Common.{◌≡◌, ◌++◌, map, string_bytes}
use Rattle.sf_func.specs.Registries.{types_of, registered_types}
use Rattle.sf_func.specs.Signatures.{named_types}
use Rattle.sf_func.proofs.registry.Registry.signatures.Given as goal

abbrev pub invariant-loop-name : goal.invariant-loop-name
invariant-loop-name g l = map named_types l.entries.items ++ map (λ e. (string_bytes e.0, types_of e.1)) l.name-iterator ≡ registered_types l.self
