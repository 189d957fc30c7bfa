-- What functions on numbers answer to values.
use Rattle.std.specs.Prelude.{ℤ, Option, Some, None, cond}
use Rattle.std.specs.Option.{option_and_then}
use Rattle.sf_value.specs.Values.{Data, number, pair, is_narrow}

-- the number that a value is
abbrev pub as_number : Data → Option ℤ
as_number (number n) = Some n
as_number d = None

-- the two numbers of which a value is a pair
abbrev pub as_numbers : Data → Option (ℤ × ℤ)
as_numbers (pair x y) = option_and_then (λ n. option_and_then (λ m. Some (n, m)) (as_number y)) (as_number x)
as_numbers d = None

-- a number within signed 64 bits, as a value
abbrev pub narrowed : ℤ → Option Data
narrowed a = cond (is_narrow a) (Some (number a)) None

-- A function of one number, on values: it answers numbers alone.
abbrev pub on_number : (ℤ → Option ℤ) → Data → Option Data
on_number f d = option_and_then narrowed (option_and_then f (as_number d))

-- A function of two numbers, on values: it answers pairs of numbers alone.
abbrev pub on_numbers : (ℤ → ℤ → Option ℤ) → Data → Option Data
on_numbers f d = option_and_then narrowed (option_and_then (λ p. f p.0 p.1) (as_numbers d))
