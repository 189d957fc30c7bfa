-- Names that are listed with their values.
use Rattle.std.specs.Prelude.{List, map, Some, string_bytes}
use Rattle.sf_code.specs.declared.name_list.NamedValue.{NamedValue}
use Rattle.sf_code.specs.Names.{ValuesByName}

-- the names of a list, each with its value
abbrev pub listed : List NamedValue → ValuesByName
listed vs = map (λ v. (string_bytes v.name, Some v.value)) vs
