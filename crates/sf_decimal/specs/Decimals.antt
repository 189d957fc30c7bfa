-- Decimal numbers: how a number is spelled, and the digits that bytes begin with.
use Rattle.std.specs.Prelude.{◌≡◌, ◌^◌, ℕ, suc, ◌+◌, ◌==◌, ℤ, pos, negsuc, neg_ℤ, Bool, false, cond, nat_lt, if◌then◌else◌, List, [], ◌∷◌, map, take, drop, ⊤}
use Rattle.std.specs.Char.{is_ascii_digit}
use Rattle.std.specs.Int.Digits.{digits_of}
use Rattle.std.specs.List.{prefix_len}

-- decimal digits, with no needless zero
unfoldable pub natural : ℕ → List ℕ
natural n = cond (n == 0) (48 ∷ []) (map (λ d. 48 + d) (digits_of 10 n))

-- a minus before a negative number
abbrev pub integer : ℤ → List ℕ
integer (pos n) = natural n
integer (negsuc n) = 45 ∷ natural (suc n)

-- the digits at the front, leading zeros among them
abbrev pub digits_at : List ℕ → List ℕ
digits_at bytes = take (prefix_len is_ascii_digit bytes) bytes

-- what stands after them
abbrev pub after_digits : List ℕ → List ℕ
after_digits bytes = drop (prefix_len is_ascii_digit bytes) bytes

-- it doesn't go on with a digit
abbrev pub BeginsNoDigit : List ℕ → Type 0
BeginsNoDigit [] = ⊤
BeginsNoDigit (c ∷ cs) = is_ascii_digit c ≡ false

-- the number, or its negative
abbrev pub signed : Bool → ℕ → ℤ
signed is_negative n = if is_negative then neg_ℤ (pos n) else pos n

-- whether a whole number is within signed 64 bits
abbrev pub is_narrow : ℤ → Bool
is_narrow (pos n) = nat_lt n (2 ^ 63)
is_narrow (negsuc n) = nat_lt n (2 ^ 63)
