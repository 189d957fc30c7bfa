-- Functions as calls know them.
use Rattle.std.specs.Prelude.{string_bytes}
use Rattle.sf_value.specs.Values.{Name}
use Rattle.sf_func.specs.declared.callee.Callee.{Callee}

-- its name; where it may stand says nothing of it
abbrev pub callee_name : Callee → Name
callee_name c = string_bytes c.name
