-- Reading a pair, each value with the byte before it.
use Rattle.std.proofs.Common.{◌≡◌, ℕ, List, Result, Ok, Err, refl, sym, ap, subst, ◌∙◌}
use Rattle.sf_spelling.specs.declared.read.Failure.{Failure}
use Rattle.sf_value.specs.Values.{Kind, Data, pair_kind}
use Rattle.sf_spelling.specs.Scan.{Stop, Scanned, ◌>>=◌, byte_at, scanned_value}
use Rattle.sf_spelling.specs.Steps.{value_behind, pair_closed}
use Rattle.sf_spelling.specs.Gives.{Fails}
use Rattle.sf_spelling.proofs.Failing.{fails_then}

-- of three steps the first two may be taken as one
pub both : {X Y : Type 0} (r : Result (List ℕ) Stop) (f : List ℕ → Result X Stop) (g : X → Result Y Stop) → (r >>= (λ e. f e >>= g)) ≡ ((r >>= f) >>= g)
both (Ok x) f g = refl
both (Err e) f g = refl

module _ (t u : Kind) (s : List ℕ) where
  abbrev closed : Data → Data × List ℕ → Scanned Data
  closed x y = pair_closed x y.0 y.1

  abbrev second_in : Data × List ℕ → Scanned Data
  second_in x = byte_at 44 x.1 >>= (λ e. scanned_value u e >>= closed x.0)

  whole : scanned_value (pair_kind t u) s ≡ (value_behind 40 t s >>= second_in)
  unfolding scanned_value
  whole = both (byte_at 40 s) (scanned_value t) second_in

  -- where the first value fails
  pub first_fails : (e : Failure) → Fails e (value_behind 40 t s) → Fails e (scanned_value (pair_kind t u) s)
  first_fails e h = subst (λ o. Fails e o) (sym whole) (fails_then e (value_behind 40 t s) second_in h)

  module _ (x : Data) (r : List ℕ) (first : value_behind 40 t s ≡ Ok (x, r)) where
    second_left : scanned_value (pair_kind t u) s ≡ (value_behind 44 u r >>= closed x)
    second_left = whole ∙ ap (λ o. o >>= second_in) first ∙ both (byte_at 44 r) (scanned_value u) (closed x)

    -- where the second value fails
    pub second_fails : (e : Failure) → Fails e (value_behind 44 u r) → Fails e (scanned_value (pair_kind t u) s)
    second_fails e h = subst (λ o. Fails e o) (sym second_left) (fails_then e (value_behind 44 u r) (closed x) h)

    -- behind both values the bracket is left
    pub bracket_left : (y : Data) (q : List ℕ) → value_behind 44 u r ≡ Ok (y, q) → scanned_value (pair_kind t u) s ≡ pair_closed x y q
    bracket_left y q h = second_left ∙ ap (λ o. o >>= closed x) h
