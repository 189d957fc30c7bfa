-- Sums of signed 64 bits and a product, in 128 bits.
use Rattle.std.proofs.Common.{◌≡◌, ℕ, ◌≤◌, ℤ, pos, negsuc, arith, to_z, of_z, sym, ap, ◌∙◌, subst, FitsSigned, w64}
use mathlib.Core.Path.{ap₂}
use Rattle.std.specs.Prelude.{◌+ℤ◌, ◌*ℤ◌, unsigned_abs}
use Rattle.std.specs.Int.{w128}
use Rattle.std.proofs.lemmas.Int.{ints, to_z-of_z, unsigned_abs-mul, fits_signed_mul}
use native.Mathlib.Nat.{mul-le-mul}

abs_least : (z : ℤ) → FitsSigned w64 z → unsigned_abs z ≤ 9223372036854775808
abs_least (pos n) h = omega (arith, h.sfits)
abs_least (negsuc n) h = omega (arith, h.sfits)

wide : (z : ℤ) → FitsSigned w64 z → FitsSigned w128 z
wide (pos n) h = record { sfits = omega (arith, h.sfits) }
wide (negsuc n) h = record { sfits = omega (arith, h.sfits) }

product_least : (l : ℤ) (d : ℕ) → FitsSigned w64 l → d ≤ 18446744073709551615 → unsigned_abs (pos d *ℤ l) ≤ 170141183460469231722463931679029329920
product_least l d h b = omega (arith, unsigned_abs-mul (pos d) l, mul-le-mul b (abs_least l h))

sum_fits : (s p : ℤ) → FitsSigned w64 s → unsigned_abs p ≤ 170141183460469231722463931679029329920 → FitsSigned w128 (s +ℤ p)
sum_fits s p h b = omega (arith, ints)

module _ (s l : ℤ) (d : ℕ) (a b c : ℤ) (f : FitsSigned w64 s) (g : FitsSigned w64 l) (h : d ≤ 18446744073709551615) (i : a ≡ s) (j : b ≡ pos d) (k : c ≡ l) where
  fits : FitsSigned w128 (pos d *ℤ l)
  fits = fits_signed_mul w128 (pos d) l 18446744073709551615 9223372036854775808 h (abs_least l g) (omega arith)

  first : to_z w128 (of_z w128 a) ≡ s
  first = ap (λ z. to_z w128 (of_z w128 z)) i ∙ to_z-of_z w128 s (wide s f)

  factors : to_z w128 (of_z w128 b) *ℤ to_z w128 (of_z w128 c) ≡ pos d *ℤ l
  factors =
      let second : to_z w128 (of_z w128 b) ≡ pos d = ap (λ z. to_z w128 (of_z w128 z)) j ∙ to_z-of_z w128 (pos d) (record { sfits = omega (arith, h) }) in
      let third : to_z w128 (of_z w128 c) ≡ l = ap (λ z. to_z w128 (of_z w128 z)) k ∙ to_z-of_z w128 l (wide l g) in
      ap₂ (λ x y. x *ℤ y) second third

  terms : to_z w128 (of_z w128 a) +ℤ to_z w128 (of_z w128 (to_z w128 (of_z w128 b) *ℤ to_z w128 (of_z w128 c))) ≡ s +ℤ (pos d *ℤ l)
  terms = ap₂ (λ x y. x +ℤ y) first (ap (λ z. to_z w128 (of_z w128 z)) factors ∙ to_z-of_z w128 (pos d *ℤ l) fits)

  -- neither the product nor the sum is outside 128 bits
  pub product_fits : FitsSigned w128 (to_z w128 (of_z w128 b) *ℤ to_z w128 (of_z w128 c))
  product_fits = subst (λ z. FitsSigned w128 z) (sym factors) fits

  pub wide_fits : FitsSigned w128 (to_z w128 (of_z w128 a) +ℤ to_z w128 (of_z w128 (to_z w128 (of_z w128 b) *ℤ to_z w128 (of_z w128 c))))
  wide_fits = subst (λ z. FitsSigned w128 z) (sym terms) (sum_fits s (pos d *ℤ l) f (product_least l d g h))

  pub wide_sum : to_z w128 (of_z w128 (to_z w128 (of_z w128 a) +ℤ to_z w128 (of_z w128 (to_z w128 (of_z w128 b) *ℤ to_z w128 (of_z w128 c))))) ≡ s +ℤ (pos d *ℤ l)
  wide_sum = ap (λ z. to_z w128 (of_z w128 z)) terms ∙ to_z-of_z w128 (s +ℤ (pos d *ℤ l)) (sum_fits s (pos d *ℤ l) f (product_least l d g h))
