-- Functions on numbers.
use Rattle.std.specs.Prelude.{ℤ, pos, negsuc, ◌-ℤ◌, Option, Some, None, if◌then◌else◌}
use Rattle.std.specs.Int.Signed.{lt_z}

-- the distance from zero; of the least number of signed 64 bits there is none
abbrev pub absolute : ℤ → Option ℤ
absolute n = if lt_z n (negsuc 9223372036854775806) then None else (if lt_z n (pos 0) then Some (pos 0 -ℤ n) else Some n)

-- -1 below zero, 1 above it, 0 at zero
abbrev pub sign_number : ℤ → Option ℤ
sign_number n = if lt_z n (pos 0) then Some (negsuc 0) else (if lt_z (pos 0) n then Some (pos 1) else Some (pos 0))

abbrev pub greater_number : ℤ → ℤ → Option ℤ
greater_number n m = if lt_z n m then Some m else Some n

abbrev pub less_number : ℤ → ℤ → Option ℤ
less_number n m = if lt_z n m then Some n else Some m
