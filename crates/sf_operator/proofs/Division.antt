-- Division of whole numbers, rounded towards minus infinity.
use Rattle.std.proofs.Common.{◌≡◌, ◌≢◌, ℕ, zero, suc, ◌+◌, ◌*◌, ◌/◌, ◌%◌, ◌-◌, ◌<◌, ◌^◌, false, cond, refl, sym, ◌∙◌, ap, arith, w64, FitsSigned, mul-suc, ⊎_elim}
use Rattle.std.specs.Prelude.{ℤ, pos, negsuc, neg_ℤ, ◌+ℤ◌, ◌-ℤ◌, ◌*ℤ◌, ◌<ℤ◌}
use Rattle.std.specs.Int.{int_div_euclid, int_rem_euclid}
use Rattle.std.specs.Int.Signed.{lt_z}
use Rattle.std.proofs.lemmas.Int.{ints}
use Rattle.std.proofs.lemmas.Bool.{lt-ltb, le-ltb, ltb-false, cases_lt}
use Rattle.std.proofs.Math.Nat.{zero-div, div-add-mod}
use Rattle.std.proofs.Math.IntN.{pos-*ℤ-negsuc, *ℤ-negsuc, *ℤ_comm, neg_ℤ-neg_ℤ, neg_ℤ-+ℤ}
use Rattle.sf_value.specs.Values.{number}
use Rattle.sf_value.specs.declared.fault.ValueFault.TheVariants.{Overflow}
use Rattle.sf_operator.specs.Outcomes.{answer, failed, tested}
use Rattle.sf_operator.specs.Operations.{quotient, remainder}

pub quotient_above : (a : ℤ) (n : ℕ) → int_div_euclid a (pos n) ≡ quotient a (pos n)
quotient_above (pos m) n = refl
quotient_above (negsuc m) n = refl

pub quotient_below : (a : ℤ) (n : ℕ) → int_div_euclid (neg_ℤ a) (pos (suc n)) ≡ quotient a (negsuc n)
quotient_below (pos zero) n = ap pos (zero-div (suc n))
quotient_below (pos (suc m)) n = refl
quotient_below (negsuc m) n = refl

-- what is left of a number, of which a part was taken
left_of_pos : (p r m : ℕ) → p + r ≡ m → pos r ≡ pos m -ℤ pos p
left_of_pos p r m e = omega (arith, ints)

left_of_negsuc : (p r m n : ℕ) → p + r ≡ m → r < suc n → pos (suc n - 1 - r) ≡ negsuc m -ℤ neg_ℤ (pos (p + suc n))
left_of_negsuc p r m n e h = omega (arith, ints)

below : (m n : ℕ) → m % suc n < suc n
below m n = omega arith

pub remainder_above : (a : ℤ) (n : ℕ) → int_rem_euclid a (pos (suc n)) ≡ remainder a (pos (suc n))
remainder_above (pos m) n = left_of_pos (suc n * (m / suc n)) (m % suc n) m (div-add-mod m (suc n))
remainder_above (negsuc m) n =
    left_of_negsuc (suc n * (m / suc n)) (m % suc n) m n (div-add-mod m (suc n)) (below m n)
    ∙ ap (λ p. negsuc m -ℤ neg_ℤ (pos p)) (sym (mul-suc (suc n) (m / suc n) ∙ omega arith))
    ∙ ap (λ p. negsuc m -ℤ p) (sym (pos-*ℤ-negsuc (suc n) (m / suc n)))

-- the remainder of the negated numbers is the remainder negated
negated : (a : ℤ) (n : ℕ) (q : ℤ) → neg_ℤ (neg_ℤ a -ℤ (pos (suc n) *ℤ q)) ≡ a -ℤ (negsuc n *ℤ q)
negated a n q =
    let product : negsuc n *ℤ q ≡ neg_ℤ (pos (suc n) *ℤ q) = *ℤ_comm (negsuc n) q ∙ *ℤ-negsuc q n ∙ ap neg_ℤ (*ℤ_comm q (pos (suc n))) in
    neg_ℤ-+ℤ (neg_ℤ a) (neg_ℤ (pos (suc n) *ℤ q))
    ∙ ap (λ b. b +ℤ neg_ℤ (neg_ℤ (pos (suc n) *ℤ q))) (neg_ℤ-neg_ℤ a)
    ∙ ap (λ b. a +ℤ neg_ℤ b) (sym product)

pub remainder_below : (a : ℤ) (n : ℕ) → neg_ℤ (int_rem_euclid (neg_ℤ a) (pos (suc n))) ≡ remainder a (negsuc n)
remainder_below a n =
    ap neg_ℤ (remainder_above (neg_ℤ a) n)
    ∙ ap (λ q. neg_ℤ (neg_ℤ a -ℤ (pos (suc n) *ℤ q))) (sym (quotient_above (neg_ℤ a) (suc n)) ∙ quotient_below a n)
    ∙ negated a n (quotient a (negsuc n))

pub tested_fits : (z : ℤ) → FitsSigned w64 z → tested z ≡ answer (number z)
tested_fits (pos n) h = ap (λ b. cond b (answer (number (pos n))) (failed Overflow)) (lt-ltb n (2 ^ 63) (omega (arith, ints)))
tested_fits (negsuc n) h = ap (λ b. cond b (answer (number (negsuc n))) (failed Overflow)) (lt-ltb n (2 ^ 63) (omega (arith, ints)))

pub tested_no_fit : (z : ℤ) → ¬ FitsSigned w64 z → tested z ≡ failed Overflow
tested_no_fit (pos n) h = ap (λ b. cond b (answer (number (pos n))) (failed Overflow)) (⊎_elim (λ (q : n < 2 ^ 63). absurd (h (record { sfits = q }))) (le-ltb n (2 ^ 63)) (cases_lt n (2 ^ 63)))
tested_no_fit (negsuc n) h = ap (λ b. cond b (answer (number (negsuc n))) (failed Overflow)) (⊎_elim (λ (q : n < 2 ^ 63). absurd (h (record { sfits = q }))) (le-ltb n (2 ^ 63)) (cases_lt n (2 ^ 63)))

-- the remainder by a divisor above zero, and below it
pub left_above : (a b : ℤ) → pos 0 <ℤ b → int_rem_euclid a b ≡ remainder a b
left_above a (pos zero) h = absurd (omega (arith, ints))
left_above a (pos (suc n)) h = remainder_above a n
left_above a (negsuc n) h = absurd (omega (arith, ints))

pub left_below : (a b : ℤ) → b <ℤ pos 0 → neg_ℤ (int_rem_euclid (neg_ℤ a) (neg_ℤ b)) ≡ remainder a b
left_below a (pos n) h = absurd (omega (arith, ints))
left_below a (negsuc n) h = remainder_below a n

pub below_zero : (b : ℤ) → lt_z (pos 0) b ≡ false → b ≢ pos 0 → b <ℤ pos 0
below_zero (pos zero) h q = absurd (q refl)
below_zero (pos (suc n)) h q = absurd (omega (arith, ltb-false 0 (suc n) h))
below_zero (negsuc n) h q = omega (arith, ints)
