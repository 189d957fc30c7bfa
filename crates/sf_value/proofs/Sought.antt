-- Keys looked for in a list.
use Rattle.std.proofs.Common.{◌≡◌, ℕ, suc, ◌+◌, ◌<◌, Bool, true, false, cond, List, [], ◌∷◌, ◌++◌, Option, Some, None, option_map, length, take, drop, get_or, map, refl, sym, ap, subst, ◌∙◌, inl, inr, arith, drop-cons, take-suc, take-append-drop}
use Rattle.std.specs.Prelude.{not, if◌then◌else◌}
use Rattle.std.specs.List.{list_any}
use Rattle.std.proofs.lemmas.List.{map-append}
use Rattle.sf_value.specs.Values.{KeyData, IsOneOf}
use Rattle.sf_value.specs.Keys.{key_of, equal_keys, key_index, AreNew, AreDifferentKeys}
use Rattle.sf_value.specs.declared.value.Key.{Key}
use Rattle.sf_value.proofs.Under.{equal_keys-Decides}
use Rattle.sf_value.proofs.Indexes.{any_one}

-- ## The search for a key

abbrev pub from_at : ℕ → Option ℕ → Option ℕ
from_at i None = None
from_at i (Some j) = Some (i + j)

pub from_start : (o : Option ℕ) → o ≡ from_at 0 o
from_start None = refl
from_start (Some j) = let e : j ≡ 0 + j = omega arith in ap Some e

from_next : (i : ℕ) (o : Option ℕ) → from_at i (option_map suc o) ≡ from_at (i + 1) o
from_next i None = refl
from_next i (Some j) = let e : i + suc j ≡ (i + 1) + j = omega arith in ap Some e

module _ (k : KeyData) (keys : List Key) (i : ℕ) (a : Key) (short : i < length keys) (same : a ≡ get_or keys i a) where
  here : map key_of (drop i keys) ≡ key_of a ∷ map key_of (drop (i + 1) keys)
  here = let more : suc i ≡ i + 1 = omega arith in ap (map key_of) (drop-cons keys i a short) ∙ ap (λ j. key_of (get_or keys i a) ∷ map key_of (drop j keys)) more ∙ ap (λ b. key_of b ∷ map key_of (drop (i + 1) keys)) (sym same)

  pub key_found : k ≡ key_of a → from_at i (key_index k (map key_of (drop i keys))) ≡ Some i
  key_found e =
      let found : equal_keys k (key_of a) ≡ true = (equal_keys-Decides k (key_of a)).1 e in
      let at : i + 0 ≡ i = omega arith in
      ap (λ ks. from_at i (key_index k ks)) here ∙ ap (λ b. from_at i (cond b (Some 0) (option_map suc (key_index k (map key_of (drop (i + 1) keys)))))) found ∙ ap Some at

  pub key_passed : equal_keys k (key_of a) ≡ false → from_at i (key_index k (map key_of (drop i keys))) ≡ from_at (i + 1) (key_index k (map key_of (drop (i + 1) keys)))
  key_passed e =
      ap (λ ks. from_at i (key_index k ks)) here ∙ ap (λ b. from_at i (cond b (Some 0) (option_map suc (key_index k (map key_of (drop (i + 1) keys)))))) e ∙ from_next i (key_index k (map key_of (drop (i + 1) keys)))

-- keys that are none are not equal
pub other_key : (k l : KeyData) → (k ≡ l → ⊥) → equal_keys k l ≡ false
other_key k l other = by (equal_keys k l) refl
  where
    by : (b : Bool) → equal_keys k l ≡ b → b ≡ false
    by true e = absurd (other ((equal_keys-Decides k l).0 e))
    by false e = refl

-- ## The index of different keys

-- one of them is none of those before it
seen_before : (seen xs : List KeyData) (k : KeyData) (ys : List KeyData) → AreNew seen (xs ++ k ∷ ys) → IsOneOf k seen → ⊥
seen_before seen [] k ys h m = h.0 m
seen_before seen (x ∷ xs) k ys h m = seen_before (x ∷ seen) xs k ys h.1 (inr m)

none_before : (seen xs : List KeyData) (k : KeyData) (ys : List KeyData) → AreNew seen (xs ++ k ∷ ys) → IsOneOf k xs → ⊥
none_before seen [] k ys h m = m
none_before seen (x ∷ xs) k ys h (inl e) = seen_before (x ∷ seen) xs k ys h.1 (inl e)
none_before seen (x ∷ xs) k ys h (inr m) = none_before (x ∷ seen) xs k ys h.1 m

not_any : (k : KeyData) (ks : List KeyData) → (IsOneOf k ks → ⊥) → list_any (equal_keys k) ks ≡ false
not_any k ks none = by (list_any (equal_keys k) ks) refl
  where
    by : (b : Bool) → list_any (equal_keys k) ks ≡ b → b ≡ false
    by true e = absurd (none (any_one k ks e))
    by false e = refl

module _ (keys : List Key) (i : ℕ) (a : Key) (short : i < length keys) (same : a ≡ get_or keys i a) (different : AreDifferentKeys (map key_of keys)) where
  parted : map key_of keys ≡ map key_of (take i keys) ++ key_of a ∷ map key_of (drop (i + 1) keys)
  parted = ap (map key_of) (sym (take-append-drop i keys)) ∙ map-append key_of (take i keys) (drop i keys) ∙ ap (λ ks. map key_of (take i keys) ++ ks) (here (key_of a) keys i a short same)

  one_more : map key_of (take i keys) ++ key_of a ∷ [] ≡ map key_of (take (i + 1) keys)
  one_more = let next : suc i ≡ i + 1 = omega arith in sym (ap (map key_of) (take-suc keys i a short) ∙ map-append key_of (take i keys) (get_or keys i a ∷ []) ∙ ap (λ b. map key_of (take i keys) ++ key_of b ∷ []) (sym same)) ∙ ap (λ j. map key_of (take j keys)) next

  pub index_grown : (old new : List KeyData) (b : Bool) → old ≡ map key_of (take i keys) → b ≡ not (list_any (equal_keys (key_of a)) old) → new ≡ (if b then old ++ key_of a ∷ [] else old) → new ≡ map key_of (take (i + 1) keys)
  index_grown old new b is added grown =
      let none = not_any (key_of a) (map key_of (take i keys)) (none_before [] (map key_of (take i keys)) (key_of a) (map key_of (drop (i + 1) keys)) (subst AreDifferentKeys parted different)) in
      let yes : b ≡ true = added ∙ ap (λ ks. not (list_any (equal_keys (key_of a)) ks)) is ∙ ap not none in
      grown ∙ ap (λ b. if b then old ++ key_of a ∷ [] else old) yes ∙ ap (λ ks. ks ++ key_of a ∷ []) is ∙ one_more
