-- Code that makes a number of a number by arithmetic alone.
use Rattle.std.specs.Prelude.{Bool, true, false, ◌&&◌, zero, suc, List, [], ◌∷◌, is_some}
use Rattle.sf_value.specs.Values.{Data}
use Rattle.sf_operator.specs.Operations.{number_held}
use Rattle.sf_operator.specs.declared.operator.Operator.TheVariants.{Arithmetic}
use Rattle.sf_code.specs.Places.{Place, at_frame, frame_part}
use Rattle.sf_code.specs.Codes.{Code, place, constant, operation}

-- whether a place has a number where the value of the innermost frame is one, and these are the values of the frames around
-- it: the whole of that value, or a number among these
abbrev pub has_number : List Data → Place → Bool
has_number vs (at_frame zero []) = true
has_number vs (at_frame zero (h ∷ hs)) = false
has_number vs (at_frame (suc n) hs) = is_some (number_held (frame_part n hs vs))

-- whether code is made of the argument, of numbers, and of arithmetic with these
abbrev pub is_arithmetic : List Data → Code → Bool
is_arithmetic vs (place p) = has_number vs p
is_arithmetic vs (constant d) = is_some (number_held d)
is_arithmetic vs (operation i (Arithmetic o) j) = is_arithmetic vs i && is_arithmetic vs j
is_arithmetic vs c = false
