-- The types of functions without the functions.
use Rattle.std.specs.Prelude.{map, string_bytes}
use Rattle.sf_value.specs.Values.{Name}
use Rattle.sf_func.specs.Registries.{FunctionTypes, TypesByName, types_shown}
use Rattle.sf_func.specs.declared.signatures.Signature.{Signature}
use Rattle.sf_func.specs.declared.signatures.Signatures as declared

-- the types of a function
abbrev pub signature_types : Signature → FunctionTypes
signature_types s = types_shown s.from s.to

-- the name and the types of a function
abbrev pub named_types : Signature → Name × FunctionTypes
named_types s = (string_bytes s.name, signature_types s)

-- the types of functions by name
abbrev pub signatures_in : declared.Signatures → TypesByName
signatures_in s = map named_types s.entries.items
