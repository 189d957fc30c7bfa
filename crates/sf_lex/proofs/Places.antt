-- Places, byte by byte.
use Rattle.std.proofs.Common.{◌≡◌, ℕ, ◌+◌, ◌≤◌, List, [], ◌∷◌, ◌++◌, take, drop, reverse, fold, count_by, take-add, true, false, not, ◌==◌, cond, refl, sym, ◌∙◌, ap, arith, append_assoc}
use Rattle.std.specs.List.{prefix_len, suffix_len}
use Rattle.std.proofs.lemmas.List.{append-nil, reverse-append, length-take, length-reverse}
use Rattle.std.proofs.lemmas.List.Sums.{count_by-le-length, sum_by-append}
use Rattle.sf_refusal.specs.declared.spot.Spot.{Spot}
use Rattle.sf_lex.specs.Tokens.{is_line_feed, is_in_line, line_number, column_at, offset_place, place_step}
use Rattle.sf_lex.proofs.Pieces.{prefix_le}

-- the place behind these bytes
abbrev place_behind : List ℕ → Spot
place_behind xs = record { line = count_by is_line_feed xs + 1; column = suffix_len is_in_line xs + 1 }

place_push : (xs : List ℕ) (b : ℕ) → place_step (place_behind xs) b ≡ place_behind (xs ++ b ∷ [])
place_push xs b =
    let lines : count_by is_line_feed (xs ++ b ∷ []) ≡ count_by is_line_feed xs + (0 + cond (b == 10) 1 0) = sum_by-append (λ x. cond (is_line_feed x) 1 0) xs (b ∷ []) in
    let turned : reverse (xs ++ b ∷ []) ≡ b ∷ reverse xs = reverse-append xs (b ∷ []) in
    let columns : suffix_len is_in_line (xs ++ b ∷ []) ≡ cond (not (b == 10)) (1 + suffix_len is_in_line xs) 0 = ap (prefix_len is_in_line) turned in
    (elim (b == 10) as (λ t. (count_by is_line_feed (xs ++ b ∷ []) ≡ count_by is_line_feed xs + (0 + cond t 1 0)) → (suffix_len is_in_line (xs ++ b ∷ []) ≡ cond (not t) (1 + suffix_len is_in_line xs) 0)
    → cond t (placed (count_by is_line_feed xs + 1 + 1) 1) (placed (count_by is_line_feed xs + 1) (suffix_len is_in_line xs + 1 + 1)) ≡ place_behind (xs ++ b ∷ [])) [
      | true ↦ λ l c. same_place _ _ _ _ (omega arith) (omega arith)
      | false ↦ λ l c. same_place _ _ _ _ (omega arith) (omega arith)
    ]) lines columns
  where
    placed : ℕ → ℕ → Spot
    placed l c = record { line = l; column = c }

    same_place : (l m c d : ℕ) → l ≡ m → c ≡ d → placed l c ≡ placed m d
    same_place l m c d e f = ap (λ x. placed x c) e ∙ ap (placed m) f

place_fold : (ys xs : List ℕ) → fold place_step (place_behind xs) ys ≡ place_behind (xs ++ ys)
place_fold [] xs = ap place_behind (sym (append-nil xs))
place_fold (y ∷ ys) xs = ap (λ p. fold place_step p ys) (place_push xs y) ∙ place_fold ys (xs ++ y ∷ []) ∙ ap place_behind (append_assoc xs (y ∷ []) ys)

at_behind : (bytes : List ℕ) (at : ℕ) → offset_place bytes at ≡ place_behind (take at bytes)
unfolding line_number column_at
at_behind bytes at = refl

pub place_on : (bytes rest : List ℕ) (at n : ℕ) (place next : Spot) → rest ≡ drop at bytes → place ≡ offset_place bytes at → next ≡ fold place_step place (take n rest) → next ≡ offset_place bytes (at + n)
place_on bytes rest at n place next r e f =
    f ∙ ap (λ x. fold place_step place (take n x)) r ∙ ap (λ p. fold place_step p (take n (drop at bytes))) (e ∙ at_behind bytes at) ∙ place_fold (take n (drop at bytes)) (take at bytes)
    ∙ ap place_behind (sym (take-add at n bytes)) ∙ sym (at_behind bytes (at + n))

pub place_small : (bytes : List ℕ) (at : ℕ) (place : Spot) → place ≡ offset_place bytes at → (place.line ≤ at + 1) × (place.column ≤ at + 1)
place_small bytes at place e =
    let f = e ∙ at_behind bytes at in
    let l = ap (λ (p : Spot). p.line) f in
    let c = ap (λ (p : Spot). p.column) f in (
      omega (arith, count_by-le-length is_line_feed (take at bytes), length-take at bytes),
      omega (arith, prefix_le is_in_line (reverse (take at bytes)), length-reverse (take at bytes), length-take at bytes),
    )

pub place_start : (bytes : List ℕ) → record { line = 1; column = 1 } ≡ offset_place bytes 0
unfolding line_number column_at
place_start bytes = refl
