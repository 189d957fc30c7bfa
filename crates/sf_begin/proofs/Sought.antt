-- Keys among different keys.
use Rattle.std.proofs.Common.{◌≡◌, Bool, true, false, cond, List, [], ◌∷◌, ◌++◌, Some, None, option_map, suc, refl, ap, ◌∙◌, inl, inr}
use Rattle.std.specs.Prelude.{not, is_some, if◌then◌else◌}
use Rattle.std.specs.List.{list_any}
use Rattle.sf_value.specs.Values.{KeyData, IsOneOf}
use Rattle.sf_value.specs.Keys.{equal_keys, key_index, AreNew, AreDifferentKeys}
use Rattle.sf_value.proofs.Under.{equal_keys-Decides}
use Rattle.sf_value.proofs.Indexes.{any_place}

-- a key that is none of them has no place
absent_place : (k : KeyData) (ks : List KeyData) → (IsOneOf k ks → ⊥) → key_index k ks ≡ None
absent_place k [] h = refl
absent_place k (l ∷ ks) h = by (equal_keys k l) refl (absent_place k ks (λ m. h (inr m)))
  where
    by : (b : Bool) → equal_keys k l ≡ b → key_index k ks ≡ None → cond b (Some 0) (option_map suc (key_index k ks)) ≡ None
    by true e rest = absurd (h (inl ((equal_keys-Decides k l).0 e)))
    by false e rest = ap (option_map suc) rest

-- one that has no place is put behind them
pub put_behind : (k : KeyData) (ks ls : List KeyData) (added : Bool) → key_index k ks ≡ None → added ≡ not (list_any (equal_keys k) ks) → ls ≡ (if added then ks ++ k ∷ [] else ks) → ls ≡ ks ++ k ∷ []
put_behind k ks ls added none asked put =
    let new : added ≡ true = asked ∙ ap not (any_place k ks ∙ ap is_some none) in
    put ∙ ap (λ b. if b then ks ++ k ∷ [] else ks) new

-- ## Different keys

-- they are so beside fewer
fewer_seen : (seen less ks : List KeyData) → ((k : KeyData) → IsOneOf k less → IsOneOf k seen) → AreNew seen ks → AreNew less ks
fewer_seen seen less [] f h = tt
fewer_seen seen less (k ∷ ks) f h = (λ m. h.0 (f k m), fewer_seen (k ∷ seen) (k ∷ less) ks both h.1)
  where
    both : (l : KeyData) → IsOneOf l (k ∷ less) → IsOneOf l (k ∷ seen)
    both l (inl e) = inl e
    both l (inr m) = inr (f l m)

-- without one of them
without_one : (seen xs : List KeyData) (k : KeyData) (ys : List KeyData) → AreNew seen (xs ++ k ∷ ys) → AreNew seen (xs ++ ys)
without_one seen [] k ys h = fewer_seen (k ∷ seen) seen ys (λ l m. inr m) h.1
without_one seen (x ∷ xs) k ys h = (h.0, without_one (x ∷ seen) xs k ys h.1)

pub left_out : (xs : List KeyData) (k : KeyData) (ys : List KeyData) → AreDifferentKeys (xs ++ k ∷ ys) → AreDifferentKeys (xs ++ ys)
left_out xs k ys h = without_one [] xs k ys h

-- one of them is none of those before it
middle_seen : (seen xs : List KeyData) (k : KeyData) (ys : List KeyData) → AreNew seen (xs ++ k ∷ ys) → IsOneOf k seen → ⊥
middle_seen seen [] k ys h m = h.0 m
middle_seen seen (x ∷ xs) k ys h m = middle_seen (x ∷ seen) xs k ys h.1 (inr m)

middle_new : (seen xs : List KeyData) (k : KeyData) (ys : List KeyData) → AreNew seen (xs ++ k ∷ ys) → IsOneOf k xs → ⊥
middle_new seen [] k ys h m = m
middle_new seen (x ∷ xs) k ys h (inl e) = middle_seen (x ∷ seen) xs k ys h.1 (inl e)
middle_new seen (x ∷ xs) k ys h (inr m) = middle_new (x ∷ seen) xs k ys h.1 m

pub none_before : (xs : List KeyData) (k : KeyData) (ys : List KeyData) → AreDifferentKeys (xs ++ k ∷ ys) → IsOneOf k xs → ⊥
none_before xs k ys h m = middle_new [] xs k ys h m

pub placeless_before : (xs : List KeyData) (k : KeyData) (ys : List KeyData) → AreDifferentKeys (xs ++ k ∷ ys) → key_index k xs ≡ None
placeless_before xs k ys h = absent_place k xs (none_before xs k ys h)
