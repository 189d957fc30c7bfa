-- What a divisor leaves is between zero and the divisor.
use Rattle.std.proofs.Common.{◌≡◌, ◌≢◌, ℕ, zero, suc, ◌%◌, ◌<◌, refl, subst, arith, Bool, true, false, cond}
use mathlib.Core.Path.{subst₂}
use Rattle.std.specs.Prelude.{ℤ, pos, negsuc, neg_ℤ, ◌+ℤ◌, ◌-ℤ◌, ◌*ℤ◌}
use Rattle.std.specs.Int.{int_rem_euclid}
use Rattle.std.proofs.lemmas.Int.{ints}
use Rattle.sf_value.specs.Values.{number, is_narrow}
use Rattle.sf_value.specs.declared.fault.ValueFault.TheVariants.{Overflow}
use Rattle.sf_operator.specs.declared.operator.Arithmetic.TheVariants.{Divide, Modulo}
use Rattle.sf_operator.specs.Outcomes.{answer, failed, tested}
use Rattle.sf_operator.specs.Operations.{quotient, remainder, of_numbers}
use Rattle.sf_operator.specs.Remainders.{IsRemainder}
use Rattle.sf_operator.proofs.Division.{remainder_above, remainder_below}

put_together : (a p : ℤ) → a ≡ p +ℤ (a -ℤ p)
put_together a p = omega (arith, ints)

euclid_rest : (a : ℤ) (n : ℕ) → IsRemainder (int_rem_euclid a (pos (suc n))) (pos (suc n))
euclid_rest (pos m) n = let h : m % suc n < suc n = omega arith in (omega (arith, ints), omega (arith, ints))
euclid_rest (negsuc m) n = let h : m % suc n < suc n = omega arith in (omega (arith, ints), omega (arith, ints))

turned : (r : ℤ) (n : ℕ) → IsRemainder r (pos (suc n)) → IsRemainder (neg_ℤ r) (negsuc n)
turned r n h = (omega (arith, ints), omega (arith, ints))

rest : (a b : ℤ) → b ≢ pos 0 → IsRemainder (remainder a b) b
rest a (pos zero) h = absurd (h refl)
rest a (pos (suc n)) h = subst (λ (r : ℤ). IsRemainder r (pos (suc n))) (remainder_above a n) (euclid_rest a n)
rest a (negsuc n) h = subst (λ (r : ℤ). IsRemainder r (negsuc n)) (remainder_below a n) (turned _ n (euclid_rest (neg_ℤ a) n))

pub divided : (a b : ℤ) → b ≢ pos 0 → (a ≡ (b *ℤ quotient a b) +ℤ remainder a b) × IsRemainder (remainder a b) b
divided a b h = (put_together a (b *ℤ quotient a b), rest a b h)

-- a number that was tested is the answer
tested_is : (z q : ℤ) → tested z ≡ answer (number q) → z ≡ q
tested_is z q = each (is_narrow z)
  where
    each : (b : Bool) → cond b (answer (number z)) (failed Overflow) ≡ answer (number q) → z ≡ q
    each true e = cc
    each false e = absurd cc

both : (a b q r : ℤ) → b ≢ pos 0 → quotient a b ≡ q → remainder a b ≡ r → (a ≡ (b *ℤ q) +ℤ r) × IsRemainder r b
both a b q r h e f =
    let N : ℤ → ℤ → Type 0 = λ q r. (a ≡ (b *ℤ q) +ℤ r) × IsRemainder r b in
    subst₂ N e f (divided a b h)

pub operators_divide : (a b q r : ℤ) → of_numbers Divide a b ≡ answer (number q) → of_numbers Modulo a b ≡ answer (number r) → (a ≡ (b *ℤ q) +ℤ r) × IsRemainder r b
operators_divide a (pos zero) q r e f = absurd cc
operators_divide a (pos (suc n)) q r e f = both a (pos (suc n)) q r (λ h. absurd cc) (tested_is _ q e) (tested_is _ r f)
operators_divide a (negsuc n) q r e f = both a (negsuc n) q r (λ h. absurd cc) (tested_is _ q e) (tested_is _ r f)
