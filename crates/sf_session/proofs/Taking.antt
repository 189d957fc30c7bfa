-- The fronts of two texts, one behind the other.
use Rattle.std.proofs.Common.{◌≡◌, ℕ, ◌+◌, ◌≤◌, List, ◌++◌, length, length-take-le, take, drop, min, sym, ap, ◌∙◌, subst, ◌⊎◌, inl, inr, arith}
use Rattle.std.proofs.lemmas.List.{append-nil, take_all, take-append-le, drop-append-le}
use Rattle.std.proofs.Math.Seq.{take-append-add, drop-append-add, drop-length}

-- a front of the first alone, or the first and a front of the second
pub fronts : (i j : ℕ) (a b : List ℕ) → i ≤ length a → (i ≡ length a) ⊎ (j ≡ 0) → take i a ++ take j b ≡ take (i + j) (a ++ b)
fronts i j a b within (inl whole) =
    subst (λ (k : ℕ). take k a ++ take j b ≡ take (k + j) (a ++ b)) (sym whole)
    (ap (λ x. x ++ take j b) (take_all (length a) a (omega arith)) ∙ sym (take-append-add a b j))
fronts i j a b within (inr none) =
    let same : i ≡ i + 0 = omega arith in
    subst (λ (k : ℕ). take i a ++ take k b ≡ take (i + k) (a ++ b)) (sym none)
    (append-nil (take i a) ∙ sym (take-append-le i a b within) ∙ ap (λ k. take k (a ++ b)) same)

-- and what is left of them
pub backs : (i j : ℕ) (a b : List ℕ) → i ≤ length a → (i ≡ length a) ⊎ (j ≡ 0) → drop i a ++ drop j b ≡ drop (i + j) (a ++ b)
backs i j a b within (inl whole) =
    subst (λ (k : ℕ). drop k a ++ drop j b ≡ drop (k + j) (a ++ b)) (sym whole)
    (ap (λ x. x ++ drop j b) (drop-length a) ∙ sym (drop-append-add a b j))
backs i j a b within (inr none) =
    let same : i ≡ i + 0 = omega arith in
    subst (λ (k : ℕ). drop i a ++ drop k b ≡ drop (i + k) (a ++ b)) (sym none)
    (sym (drop-append-le i a b within) ∙ ap (λ k. drop k (a ++ b)) same)

-- a first text that fills a room leaves none for the second
no_room : (i j p q r s : ℕ) → i ≡ min p q → j ≡ min r s → s + i ≡ q → (i ≡ p) ⊎ (j ≡ 0)
no_room i j p q r s first second sizes = grind arith

-- both are written into a room, one behind the other
pub written : (i j : ℕ) (a b x y z : List ℕ) → i ≡ min (length a) (length x) → j ≡ min (length b) (length y) → length y + i ≡ length x
    → take i x ≡ take i a → take j y ≡ take j b → take (i + j) (take i x ++ (y ++ z)) ≡ take (i + j) (a ++ b)
written i j a b x y z first second sizes p q =
    let size : length (take i x) ≡ i = length-take-le i x (omega arith) in
    let apart : take (i + j) (take i x ++ (y ++ z)) ≡ take i x ++ take j (y ++ z) =
    subst (λ (k : ℕ). take (k + j) (take i x ++ (y ++ z)) ≡ take i x ++ take j (y ++ z)) size (take-append-add (take i x) (y ++ z) j) in
    let ends : (i ≡ length a) ⊎ (j ≡ 0) = no_room i j (length a) (length x) (length b) (length y) first second sizes in
    apart ∙ ap (λ u. take i x ++ u) (take-append-le j y z (omega arith)) ∙ ap (λ u. u ++ take j y) p ∙ ap (λ u. take i a ++ u) q ∙ fronts i j a b (omega arith) ends
