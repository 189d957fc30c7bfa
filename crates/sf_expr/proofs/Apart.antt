-- Names that are all different.
use Rattle.std.proofs.Common.{◌≡◌, ◌≢◌, List, [], ◌∷◌, ◌++◌, length, ◌⊎◌, inl, inr, Bool, true, false, ◌||◌, Contains, refl, sym, ◌∙◌, ap, subst, arith, append_assoc, Ok, Err, cond, suc, zero}
use Rattle.std.specs.Prelude.{bytes_eq}
use Rattle.std.specs.List.{list_any}
use Rattle.std.specs.Bool.{Decides}
use Rattle.std.specs.Borrow.{Bor}
use Rattle.std.proofs.lemmas.Slice.Eq.{bytes_eq-Decides}
use Rattle.std.proofs.lemmas.List.{length-append, append-nil, get_or_append_left, get_or_push}
use Rattle.std.proofs.lemmas.List.Elements.{All-push, All-contains}
use Rattle.sf_value.specs.Values.{Name}
use Rattle.sf_refusal.specs.declared.rule.Rule.TheVariants.{DuplicateName}
use Rattle.sf_refusal.specs.declared.refusal.Breach.{Breach}
use Rattle.sf_refusal.specs.Refusals.{breach_of}
use Rattle.sf_expr.specs.Expressions.{names_of_pattern}
use Rattle.sf_expr.specs.Patterns.{PlacedPattern, placed_unnamed, placed_name, placed_both, pattern_of}
use Rattle.sf_expr.specs.Typing.{AllDifferent}
use Rattle.sf_expr.specs.Inference.{is_among}
use Rattle.sf_expr.specs.Meanings.{names_seen}
use Rattle.sf_expr.specs.Judging.{◌>>=◌, judged_seen}
use Rattle.sf_expr.proofs.Inferred.{not_among}

-- a name that was seen
pub seen_among : (seen : List (Bor Name)) (n : Name) → list_any (λ (y : Bor Name). bytes_eq n y.now) seen ≡ is_among n (names_seen seen)
seen_among [] n = refl
seen_among (y ∷ ys) n = ap (λ b. bytes_eq n y.now || b) (seen_among ys n)

contains_more : (y : Name) (xs : List Name) (n : Name) → Contains xs n → Contains (y ∷ xs) n
contains_more y xs n h = (suc h.0, omega (arith, h.1), h.2)

-- names that are all different, with one more
apart_push : (xs : List Name) (n : Name) → AllDifferent xs → (Contains xs n → ⊥) → AllDifferent (xs ++ n ∷ [])
apart_push [] n h away = (λ k d q. absurd (omega arith), tt)
apart_push (x ∷ xs) n h away = (All-push (λ y. x ≢ y) xs n h.0 (λ e. away (0, omega arith, e)), apart_push xs n h.1 (λ c. away (contains_more x xs n c)))

-- and without those behind
apart_front : (xs ys : List Name) → AllDifferent (xs ++ ys) → AllDifferent xs
apart_front [] ys h = tt
apart_front (x ∷ xs) ys h = (λ k d q. subst (λ y. x ≢ y) (get_or_append_left xs ys d k q) (h.0 k d (omega (arith, length-append xs ys))), apart_front xs ys h.1)

-- a name is not among names all different behind it
apart_last : (xs : List Name) (n : Name) → AllDifferent (xs ++ n ∷ []) → Contains xs n → ⊥
apart_last [] n h c = omega (arith, c.1)
apart_last (y ∷ ys) n h (zero, q, e) = h.0 (length ys) n (omega (arith, length-append ys (n ∷ []))) (e ∙ sym (get_or_push ys n n (length ys) refl))
apart_last (y ∷ ys) n h (suc k, q, e) = apart_last ys n h.1 (k, omega arith, e)

among_contains : (n : Name) (ys : List Name) → is_among n ys ≡ true → Contains ys n
among_contains n [] h = absurd cc
among_contains n (y ∷ ys) h = each (bytes_eq n y) (bytes_eq-Decides n y) (among_contains n ys) h
  where
    each : (b : Bool) → Decides b (n ≡ y) → (is_among n ys ≡ true → Contains ys n) → b || is_among n ys ≡ true → Contains (y ∷ ys) n
    each true d more e = (0, omega arith, sym (d.0 refl))
    each false d more e = let k = more e in (suc k.0, omega (arith, k.1), k.2)

-- The names of a pattern are put behind those that were seen where all are different, and where they are not one is refused.
abbrev pub Apart : List Name → PlacedPattern → Type 0
Apart seen p = ((judged_seen seen p ≡ Ok (seen ++ names_of_pattern (pattern_of p))) × AllDifferent (seen ++ names_of_pattern (pattern_of p)))
    ⊎ ((b : Breach) × (judged_seen seen p ≡ Err b) × (AllDifferent (seen ++ names_of_pattern (pattern_of p)) → ⊥))

pub apart_seen : (seen : List Name) (p : PlacedPattern) → AllDifferent seen → Apart seen p
apart_seen seen placed_unnamed h = inl (ap Ok (sym (append-nil seen)), subst (λ ns. AllDifferent ns) (sym (append-nil seen)) h)
apart_seen seen (placed_name n s) h = each (is_among n seen) refl
  where
    each : (b : Bool) → is_among n seen ≡ b → Apart seen (placed_name n s)
    each true e = inr (breach_of DuplicateName s, ap (λ b. cond b (Err (breach_of DuplicateName s)) (Ok (seen ++ n ∷ []))) e, λ d. apart_last seen n d (among_contains n seen e))
    each false e = inl (ap (λ b. cond b (Err (breach_of DuplicateName s)) (Ok (seen ++ n ∷ []))) e, apart_push seen n h (λ c. All-contains (λ y. n ≢ y) seen n (not_among n seen e) c refl))
apart_seen seen (placed_both p q) h = elim (apart_seen seen p h) [
  | inr r ↦ inr (r.0, ap (λ j. j >>= λ more. judged_seen more q) r.1, λ d. r.2 (apart_front (seen ++ names_of_pattern (pattern_of p)) (names_of_pattern (pattern_of q)) (subst (λ ns. AllDifferent ns) (sym (append_assoc seen (names_of_pattern (pattern_of p)) (names_of_pattern (pattern_of q)))) d)))
  | inl d ↦ elim (apart_seen (seen ++ names_of_pattern (pattern_of p)) q d.1) [
    | inr r ↦ inr (r.0, ap (λ j. j >>= λ more. judged_seen more q) d.0 ∙ r.1, λ e. r.2 (subst (λ ns. AllDifferent ns) (sym (append_assoc seen (names_of_pattern (pattern_of p)) (names_of_pattern (pattern_of q)))) e))
    | inl k ↦ inl (ap (λ j. j >>= λ more. judged_seen more q) d.0 ∙ k.0 ∙ ap Ok (append_assoc seen (names_of_pattern (pattern_of p)) (names_of_pattern (pattern_of q))), subst (λ ns. AllDifferent ns) (append_assoc seen (names_of_pattern (pattern_of p)) (names_of_pattern (pattern_of q))) k.1)
  ]
]
