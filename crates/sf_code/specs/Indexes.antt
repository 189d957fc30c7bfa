-- The names of a pattern, in an index.
use Rattle.std.specs.Prelude.{◌≡◌, is_some}
use Rattle.std.specs.BTreeMap.{BTreeMap, get_by_text}
use Rattle.std.specs.declared.alloc.Global.{Global}
use Rattle.std.specs.declared.string.String.{String}
use Rattle.sf_value.specs.Values.{Name}
use Rattle.sf_expr.specs.Expressions.{Pattern}
use Rattle.sf_code.specs.Compiling.{path_of_name}

-- an index has a name if and only if the pattern binds it
abbrev pub IndexesPattern : {X : Type 0} → Pattern → BTreeMap (String Global) X → Type 0
IndexesPattern p names = (x : Name) → is_some (get_by_text names x) ≡ is_some (path_of_name x p)
