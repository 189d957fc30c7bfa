-- The bytes of a character in UTF-8.
use Rattle.std.proofs.Common.{◌≡◌, ℕ, ◌+◌, ◌/◌, ◌≤◌, ◌<◌, Bool, true, false, cond, [], ◌∷◌, refl, sym, subst, ◌∙◌, arith}
use lib.Utf8.{next, encode}
use lib.Dec.{T, ltb, lt→ltb, ltb→lt}

taken : {X : Type 0} (y : Bool) (a b : X) → T y → cond y a b ≡ a
taken true a b t = refl
taken false a b t = absurd t

passed : {X : Type 0} (m n : ℕ) (a b : X) → n ≤ m → cond (ltb m n) a b ≡ b
passed {X} m n a b le = by_test (ltb m n) refl
  where
    by_test : (y : Bool) → ltb m n ≡ y → cond y a b ≡ b
    by_test true e = let lt : m < n = ltb→lt m n (subst T (sym e) tt) in absurd (omega arith)
    by_test false e = refl

pub one : (c : ℕ) → c < 128 → encode c ≡ c ∷ []
unfolding encode
one c h = taken (ltb c 128) _ _ (lt→ltb c 128 h)

pub two : (c : ℕ) → 128 ≤ c → c < 2048 → encode c ≡ (192 + c / 64) ∷ next c ∷ []
unfolding encode
two c l h = passed c 128 _ _ l ∙ taken (ltb c 2048) _ _ (lt→ltb c 2048 h)

pub three : (c : ℕ) → 2048 ≤ c → c < 65536 → encode c ≡ (224 + c / 4096) ∷ next (c / 64) ∷ next c ∷ []
unfolding encode
three c l h = passed c 128 _ _ (omega arith) ∙ passed c 2048 _ _ l ∙ taken (ltb c 65536) _ _ (lt→ltb c 65536 h)

pub four : (c : ℕ) → 65536 ≤ c → encode c ≡ (240 + c / 262144) ∷ next (c / 4096) ∷ next (c / 64) ∷ next c ∷ []
unfolding encode
four c l = passed c 128 _ _ (omega arith) ∙ passed c 2048 _ _ (omega arith) ∙ passed c 65536 _ _ l
