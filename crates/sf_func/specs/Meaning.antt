-- What stored functions mean.
use Rattle.std.specs.Prelude.{◌≡◌, Option, Some, None, Result, Ok, Err, ⊤}
use Rattle.sf_value.specs.Values.{Data}
use Rattle.sf_func.specs.declared.function.FunctionFault.{FunctionFault}
use Rattle.sf_func.specs.declared.function.FunctionFault.TheVariants.{Refused, Memory}

-- What an application answers: the value that there is, or a refusal where there is none. Want of memory says nothing.
abbrev pub Applied : Option Data → Result Data FunctionFault → Type 0
Applied answer (Ok v) = answer ≡ Some v
Applied answer (Err Refused) = answer ≡ None
Applied answer (Err Memory) = ⊤
