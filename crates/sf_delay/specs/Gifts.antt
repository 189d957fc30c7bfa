-- What a step answers that leaves its value in place.
use Rattle.std.specs.Prelude.{Result, Ok, Err}

-- what is left in place, unless there is an error
abbrev pub gift : {A B E : Type 0} → Result A E → B → Result B E
gift (Ok a) b = Ok b
gift (Err e) b = Err e
