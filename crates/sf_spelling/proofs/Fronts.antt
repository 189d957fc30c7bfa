-- What stands before what is appended.
use Rattle.std.proofs.Common.{◌≡◌, ℕ, List, [], ◌∷◌, ◌++◌, length, take, Result, Ok, Err, OnErr, refl, ap, subst, ◌∙◌, append_assoc}
use Rattle.sf_decimal.proofs.Runs.{take_whole}

kept : (old more new : List ℕ) → take (length (old ++ more)) new ≡ old ++ more → take (length old) new ≡ old
kept [] more new h = refl
kept (x ∷ old) more [] h = cc
kept (x ∷ old) more (y ∷ new) h =
    let first : y ≡ x = cc in
    let rest : take (length (old ++ more)) new ≡ old ++ more = cc in
    rw first (ap (λ xs. x ∷ xs) (kept old more new rest))

-- where a front stays, its own front stays
pub front_kept : (old grown more new : List ℕ) → grown ≡ old ++ more → take (length grown) new ≡ grown → take (length old) new ≡ old
front_kept old grown more new e h = kept old more new (subst (λ xs. take (length xs) new ≡ xs) e h)

-- what is the same has itself as its front
pub same_kept : (old new : List ℕ) → new ≡ old → take (length old) new ≡ old
same_kept old new e = ap (take (length old)) e ∙ take_whole old

-- what stands behind what stands behind the old
pub behind : (old more grown last new : List ℕ) → grown ≡ old ++ more → new ≡ grown ++ last → new ≡ old ++ (more ++ last)
behind old more grown last new e h = h ∙ ap (λ xs. xs ++ last) e ∙ append_assoc old more last

-- what holds holds of an error
pub on_err : {A E : Type 0} (r : Result A E) (P : Type 0) → P → OnErr r P
on_err (Ok x) P p = tt
on_err (Err e) P p = p

-- where an error leaves a front, it leaves the front's own front
pub kept_on_err : {A E : Type 0} (r : Result A E) (old more grown new : List ℕ) → grown ≡ old ++ more → OnErr r (take (length grown) new ≡ grown) → OnErr r (take (length old) new ≡ old)
kept_on_err (Ok x) old more grown new e h = tt
kept_on_err (Err x) old more grown new e h = front_kept old grown more new e h
