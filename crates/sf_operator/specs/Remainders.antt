-- What a divisor may leave of a number.
use Rattle.std.specs.Prelude.{ℤ, pos, negsuc, ◌≤ℤ◌, ◌<ℤ◌}

-- A number stands between zero and the divisor: it is zero or has the divisor's sign, and is nearer to zero.
abbrev pub IsRemainder : ℤ → ℤ → Type 0
IsRemainder r (pos n) = (pos 0 ≤ℤ r) × (r <ℤ pos n)
IsRemainder r (negsuc n) = (negsuc n <ℤ r) × (r ≤ℤ pos 0)
