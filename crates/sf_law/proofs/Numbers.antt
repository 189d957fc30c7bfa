-- The first templates of names.
use Rattle.std.proofs.Common.{◌≡◌, ℕ, ◌+◌, ◌<◌, List, [], ◌∷◌, ◌++◌, length, Bool, true, false, bytes_eq, Option, None, Some, is_some, unwrap_or, slice_index_or, HashMap, String, string_bytes, refl, sym, ◌∙◌, ap, subst, true≢false, arith, ⊎_elim}
use Rattle.std.specs.declared.alloc.Global.{Global}
use Rattle.std.specs.HashMap.{get_by_text}
use Rattle.std.specs.Option.{MatchOption}
use Rattle.std.specs.String.{string_eq}
use Rattle.std.specs.Map.{lookup}
use Rattle.std.proofs.lemmas.Bool.{cases_lt}
use Rattle.std.proofs.lemmas.List.Sums.{position_or_len_is}
use Rattle.std.proofs.lemmas.Slice.Eq.{bytes_eq-Decides}
use Rattle.indexmap.specs.IndexMap.{insert_entry}
use Rattle.sf_func.proofs.Lookups.{last_of, last_found, found_still}
use Rattle.sf_value.specs.Values.{Name}
use Rattle.sf_law.specs.Headers.{PlanHeader, no_header, place_named}

-- what is not there is not found
pub is_absent : {X : Type 0} (o : Option X) (b : Bool) → b ≡ is_some o → b ≡ false → o ≡ None
is_absent None b is absent = refl
is_absent (Some x) b is absent = absurd (true≢false (sym is ∙ absent))

module _ (hs : List PlanHeader) (x : Name) where
  -- whether the template at a place has the name
  abbrev is_of : ℕ → Bool
  is_of j = bytes_eq x (slice_index_or hs j no_header).name

  -- what is the first place of the name below a number, if there is any
  abbrev pub FirstBelow : ℕ → Option ℕ → Type 0
  FirstBelow i o = MatchOption o ((j : ℕ) → j < i → is_of j ≡ false) (λ k. (k < i) × (is_of k ≡ true) × ((j : ℕ) → j < k → is_of j ≡ false))

  -- nothing is below 0
  pub none_below : FirstBelow 0 None
  none_below = λ j l. absurd (omega (arith, l))

  -- a further place changes nothing where it has another name, or one had it before
  pub first_still : (i : ℕ) (o : Option ℕ) → FirstBelow i o → (o ≡ None → is_of i ≡ false) → FirstBelow (i + 1) o
  first_still i None before other = λ j l. ⊎_elim (λ b. before j b) (λ b. let here : i ≡ j = omega (arith, l, b) in ap is_of (sym here) ∙ other refl) (cases_lt j i)
  first_still i (Some k) before other = (omega (arith, before.0), before.1, before.2)

  -- a further place is the first where none had the name before
  pub first_here : (i : ℕ) → FirstBelow i None → is_of i ≡ true → FirstBelow (i + 1) (Some i)
  first_here i before here = (omega arith, here, before)

  -- the first of all places
  pub first_of_all : (o : Option ℕ) → FirstBelow (length hs) o → unwrap_or o (length hs) ≡ place_named x hs
  first_of_all None before = sym (position_or_len_is (λ (h : PlanHeader). bytes_eq x h.name) hs (length hs) no_header (omega arith) before (λ l. absurd (omega (arith, l))))
  first_of_all (Some k) before = sym (position_or_len_is (λ (h : PlanHeader). bytes_eq x h.name) hs k no_header (omega (arith, before.0)) before.2 (λ l. before.1))

module _ {Z : Type 0} (hs : List PlanHeader) (i : ℕ) (name : Name) (here : (slice_index_or hs i no_header).name ≡ name) (m : HashMap (String Global) ℕ Z) where
  -- a name that is there has its first place already
  pub present_still : (x : Name) → is_some (get_by_text m name) ≡ true → FirstBelow hs x i (get_by_text m x) → FirstBelow hs x (i + 1) (get_by_text m x)
  present_still x there before = first_still hs x i (get_by_text m x) before (λ none. other none (bytes_eq x name) refl)
    where
      other : get_by_text m x ≡ None → (b : Bool) → bytes_eq x name ≡ b → bytes_eq x (slice_index_or hs i no_header).name ≡ false
      other none true e = absurd (true≢false (sym there ∙ ap (λ y. is_some (get_by_text m y)) (sym ((bytes_eq-Decides x name).0 e)) ∙ ap is_some none))
      other none false e = ap (bytes_eq x) here ∙ e

  -- a name that is not there has its first place here
  pub absent_added : (n : HashMap (String Global) ℕ Z) (k : String Global) → string_bytes k ≡ name → get_by_text m name ≡ None → n.entries ≡ insert_entry string_eq m.entries k i
      → (x : Name) → FirstBelow hs x i (get_by_text m x) → FirstBelow hs x (i + 1) (get_by_text n x)
  absent_added n k same none put x before = by (bytes_eq x name) refl
    where
      last : n.entries ≡ m.entries ++ (k, i) ∷ []
      last = last_of m n.entries k i name same none put

      key : bytes_eq x (string_bytes k) ≡ bytes_eq x name
      key = ap (bytes_eq x) same

      by : (b : Bool) → bytes_eq x name ≡ b → FirstBelow hs x (i + 1) (get_by_text n x)
      by true e =
          let absent : get_by_text m x ≡ None = ap (get_by_text m) ((bytes_eq-Decides x name).0 e) ∙ none in
          let found : get_by_text n x ≡ Some i = ap (lookup (λ k. bytes_eq x (string_bytes k))) last ∙ last_found (λ k. bytes_eq x (string_bytes k)) m.entries (k, i) absent (key ∙ e) in
          subst (λ o. FirstBelow hs x (i + 1) o) (sym found) (first_here hs x i (subst (λ o. FirstBelow hs x i o) absent before) (ap (bytes_eq x) here ∙ e))
      by false e =
          let found : get_by_text n x ≡ get_by_text m x = ap (lookup (λ k. bytes_eq x (string_bytes k))) last ∙ found_still (λ k. bytes_eq x (string_bytes k)) m.entries (k, i) (key ∙ e) in
          subst (λ o. FirstBelow hs x (i + 1) o) (sym found) (first_still hs x i (get_by_text m x) before (λ none. ap (bytes_eq x) here ∙ e))
