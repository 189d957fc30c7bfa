-- Spellings of numbers.
use Rattle.std.proofs.Common.{◌≡◌, ℕ, zero, suc, ◌+◌, ◌/◌, ◌%◌, ◌^◌, ◌<◌, ◌≤◌, ℤ, pos, negsuc, true, false, List, [], ◌∷◌, ◌++◌, map, FitsSigned, w64, refl, sym, ◌∙◌, ap, arith, eqb}
use Rattle.std.specs.Fmt.{decimal, signed_decimal}
use Rattle.std.specs.Int.Digits.{digits_of}
use Rattle.std.proofs.lemmas.Fmt.{decimal-digits_of, decimal_digit}
use Rattle.std.proofs.lemmas.Int.Digits.{digits_of_step}
use Rattle.sf_decimal.specs.Decimals.{natural, integer, signed}

not_zero : (n : ℕ) → 0 < n → eqb n 0 ≡ false
not_zero n h = grind arith

natural_pos : (n : ℕ) → 0 < n → natural n ≡ map (λ d. 48 + d) (digits_of 10 n)
unfolding natural
natural_pos n h = rw (not_zero n h) refl

map_snoc : (xs : List ℕ) (d : ℕ) → map (λ d. 48 + d) (xs ++ d ∷ []) ≡ map (λ d. 48 + d) xs ++ (48 + d) ∷ []
map_snoc [] d = refl
map_snoc (x ∷ xs) d = ap (λ ys. (48 + x) ∷ ys) (map_snoc xs d)

step : (n : ℕ) → 0 < n → natural n ≡ map (λ d. 48 + d) (digits_of 10 (n / 10)) ++ (48 + n % 10) ∷ []
step n h = natural_pos n h ∙ ap (map (λ d. 48 + d)) (digits_of_step 10 n (omega arith) h) ∙ map_snoc (digits_of 10 (n / 10)) (n % 10)

pub natural_small : (n : ℕ) → n < 10 → natural n ≡ (48 + n) ∷ []
unfolding natural
natural_small zero h = refl
natural_small (suc n) h =
    let q : suc n / 10 ≡ 0 = omega arith in
    let r : suc n % 10 ≡ suc n = omega arith in
    step (suc n) (omega arith) ∙ rw (q, r) refl

pub natural_more : (n : ℕ) → 10 ≤ n → natural n ≡ natural (n / 10) ++ (48 + n % 10) ∷ []
natural_more n h = step n (omega arith) ∙ ap (λ ds. ds ++ (48 + n % 10) ∷ []) (sym (natural_pos (n / 10) (omega arith)))

-- what is formatted is the spelling
pub natural_is : (n : ℕ) → n < 2 ^ 64 → decimal n ≡ natural n
natural_is zero h = decimal_digit 0 (omega arith) ∙ sym (natural_small 0 (omega arith))
natural_is (suc n) h = decimal-digits_of (suc n) (omega arith) h ∙ sym (natural_pos (suc n) (omega arith))

pub integer_is : (z : ℤ) → FitsSigned w64 z → signed_decimal z ≡ integer z
integer_is (pos n) h = let f = h.sfits in natural_is n (omega arith)
integer_is (negsuc n) h = let f = h.sfits in ap (λ x. 45 ∷ x) (natural_is (suc n) (omega arith))

-- a number that isn't 0 behind a minus
pub minus_text : (n : ℕ) → 0 < n → integer (signed true n) ≡ 45 ∷ natural n
minus_text zero h = absurd (omega arith)
minus_text (suc n) h = refl
