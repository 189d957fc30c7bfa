-- Multiples of a time.
use Rattle.std.proofs.Common.{◌≡◌, ℕ, zero, suc, ◌+◌, ◌-◌, ◌*◌, ◌/◌, ◌%◌, ◌<◌, ◌≤◌, ◌⊎◌, inl, inr, arith, ◌∷◌, true, false, cond, ℤ, refl, sym, ap, ◌∙◌}
use mathlib.Core.Path.{ap₂}
use Rattle.std.specs.Prelude.{nat_lt}
use Rattle.std.proofs.lemmas.Bool.{lt-ltb, le-ltb}
use Rattle.std.proofs.lemmas.Nat.{div-mul-add, mod-mul-add, le-div, mod_below, div-add-mod'}
use Rattle.std.proofs.Math.Nat.{mul-add-mod_self_right, div-zero}
use Rattle.sf_value.specs.Values.{Data, no_event, event}
use Rattle.sf_mean.specs.Lives.{step, Life, time}
use Rattle.sf_mean.specs.Formulas.{span, repeated_formula}
use Rattle.sf_delay.specs.Lately.{waited}
use Rattle.sf_delay.specs.Waits.{TicksOn}
use Rattle.sf_delay.specs.declared.ticker.Ticker.{Ticker}
use Rattle.sf_delay.proofs.Lasting.{time_grows}

-- no multiple lies in a time that is shorter than what is left to the next
pub none_lies : (p t d u : ℕ) → t + d ≡ u → (p ≡ 0) ⊎ (d < p - t % p) → ((p - t % p) - d ≡ p - u % p) × (nat_lt (t / p) (u / p) ≡ false)
none_lies zero t d u is h = (omega arith, ap₂ nat_lt (div-zero t) (div-zero u))
none_lies (suc p) t d u is h =
    let q = suc p in
    let room : t % q + d < q = elim h [ inl e ↦ absurd (omega (arith, e)) | inr k ↦ omega (arith, k) ] in
    let sum : t / q * q + (t % q + d) ≡ u = omega (arith, div-add-mod' t q, is) in
    let row : u / q ≡ t / q = ap (λ n. n / q) (sym sum) ∙ div-mul-add (t / q) q (t % q + d) room in
    let place : u % q ≡ t % q + d = ap (λ n. n % q) (sym sum) ∙ mod-mul-add (t / q) q (t % q + d) room in
    (omega (arith, place), le-ltb (t / q) (u / q) (omega (arith, row)))

-- one lies in a time that isn't
pub one_lies : (p t d u left : ℕ) → t + d ≡ u → 0 < p → left ≡ p - t % p → left ≤ d → (p - (d - left) % p ≡ p - u % p) × (nat_lt (t / p) (u / p) ≡ true)
one_lies p t d u left is h l k =
    let low = mod_below t p h in
    let sum : (t / p + 1) * p + (d - left) ≡ u = omega (arith, div-add-mod' t p, is, l, k, low, next (t / p) p) in
    let place : u % p ≡ (d - left) % p = ap (λ n. n % p) (sym sum) ∙ mul-add-mod_self_right (t / p + 1) p (d - left) in
    (ap (λ n. p - n) (sym place), lt-ltb (t / p) (u / p) (omega (arith, le-div (t / p + 1) u p h (omega (arith, sum)))))
  where
    next : (a b : ℕ) → (a + 1) * b ≡ a * b + b
    next a b = omega arith

module _ (t : Ticker) (q : ℤ) (v : Data) (d : ℕ) (x : Data) (L : Life) (n : ℕ) (is : n ≡ waited t.begun d) (k : TicksOn t q v L) where
  time_is : time L + n ≡ time (step d x ∷ L)
  time_is = ap (λ n. time L + n) (is ∙ ap (λ b. waited b d) k.begun) ∙ time_grows d x L

  -- a sample without an event
  pub ticks_on : (left : ℕ) → left ≡ t.left - n → (t.period ≡ 0) ⊎ (n < t.left) → TicksOn (record t { begun = true; left = left }) q v (step d x ∷ L) × (repeated_formula q v (step d x) L ≡ no_event)
  ticks_on left h short =
      let none = none_lies (span q) (time L) n (time (step d x ∷ L)) time_is (elim short [ inl e ↦ inl (sym k.period ∙ e) | inr l ↦ inr (omega (arith, k.left, l)) ]) in (
        record { event = k.event; begun = refl; period = k.period; left = h ∙ ap (λ l. l - n) k.left ∙ none.0 },
        ap (λ b. cond b (event v) no_event) none.1,
      )

  -- one with an event
  pub ticks_over : (left : ℕ) → left ≡ t.period - (n - t.left) % t.period → 0 < t.period → t.left ≤ n → TicksOn (record t { begun = true; left = left }) q v (step d x ∷ L) × (repeated_formula q v (step d x) L ≡ event v)
  ticks_over left h some over =
      let one = one_lies (span q) (time L) n (time (step d x ∷ L)) t.left time_is (omega (arith, k.period, some)) k.left over in (
        record { event = k.event; begun = refl; period = k.period; left = h ∙ ap (λ p. p - (n - t.left) % p) k.period ∙ one.0 },
        ap (λ b. cond b (event v) no_event) one.1,
      )
