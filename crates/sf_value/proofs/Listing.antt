-- A list of keys beside an index of the same keys.
use Rattle.std.proofs.Common.{◌≡◌, ◌≤◌, ℕ, zero, suc, Bool, true, false, List, [], ◌∷◌, ◌++◌, length, map, Option, None, Some, refl, sym, ap, ◌∙◌, subst, arith}
use Rattle.std.proofs.lemmas.List.{map-append}
use Rattle.std.specs.Prelude.{not, is_some, IfSome, MatchOption, if◌then◌else◌}
use Rattle.std.specs.List.{list_any, remove}
use Rattle.sf_value.specs.Values.{KeyData}
use Rattle.sf_value.specs.Keys.{key_of, equal_keys, key_index, AreDifferentKeys}
use Rattle.sf_value.specs.declared.value.Key.{Key}
use Rattle.sf_value.proofs.Indexes.{push_new, no_place, any_place}
use Rattle.sf_value.proofs.Removing.{removed_new}

abbrev pub IsListed : List Key → Option (List KeyData) → Type 0
IsListed list index = AreDifferentKeys (map key_of list) × IfSome index (λ ks. ks ≡ map key_of list)

pub still_listed : (old new : List Key) (i j : Option (List KeyData)) → new ≡ old → j ≡ i → IsListed old i → IsListed new j
still_listed old new i j same is h = subst (IsListed new) (sym is) (subst (λ l. IsListed l i) (sym same) h)

pub kept_listed : (old new : List Key) (j : Option (List KeyData)) (b : Bool) (k : KeyData) → new ≡ old → b ≡ false → IfSome j (λ ks. ks ≡ (if b then map key_of new ++ k ∷ [] else map key_of new)) → AreDifferentKeys (map key_of old) → IsListed new j
kept_listed old new j b k same not_added keys h =
    (subst (λ l. AreDifferentKeys (map key_of l)) (sym same) h, subst (λ b. IfSome j (λ ks. ks ≡ (if b then map key_of new ++ k ∷ [] else map key_of new))) not_added keys)

-- one more key that is none of them
pub keys_pushed : (old new : List Key) (k : Key) → new ≡ old ++ k ∷ [] → map key_of new ≡ map key_of old ++ key_of k ∷ []
keys_pushed old new k is = ap (map key_of) is ∙ map-append key_of old (k ∷ [])

nowhere : (k : KeyData) (ks : List KeyData) → true ≡ not (list_any (equal_keys k) ks) → key_index k ks ≡ None
nowhere k ks h = each (key_index k ks) (h ∙ ap not (any_place k ks))
  where
    each : (o : Option ℕ) → true ≡ not (is_some o) → o ≡ None
    each None h = refl
    each (Some i) h = absurd cc

pub pushed_listed : (old mid new : List Key) (j : Option (List KeyData)) (b : Bool) (k : Key) → mid ≡ old → new ≡ mid ++ k ∷ [] → b ≡ not (list_any (equal_keys (key_of k)) (map key_of mid))
    → IfSome j (λ ks. ks ≡ (if b then map key_of mid ++ key_of k ∷ [] else map key_of mid)) → b ≡ true → AreDifferentKeys (map key_of old) → IsListed new j
pushed_listed old mid new j b k same is absent keys added h =
    let more = keys_pushed mid new k is in
    let none = nowhere (key_of k) (map key_of mid) (sym added ∙ absent) in (
      subst AreDifferentKeys (sym more) (push_new [] (map key_of mid) (key_of k) (subst (λ l. AreDifferentKeys (map key_of l)) (sym same) h) (λ m. m) (no_place (key_of k) (map key_of mid) none)),
      subst (λ l. IfSome j (λ ks. ks ≡ l)) (sym more) (subst (λ b. IfSome j (λ ks. ks ≡ (if b then map key_of mid ++ key_of k ∷ [] else map key_of mid))) added keys),
    )

-- of keys that have no index, one is new where it has no place
pub new_among : (k : KeyData) (ks : List KeyData) (o : Option ℕ) (b : Bool) → o ≡ key_index k ks → is_some o ≡ not b → b ≡ not (list_any (equal_keys k) ks)
new_among k ks o b place none = sym (not-not b) ∙ ap not (sym none ∙ ap is_some place ∙ sym (any_place k ks))
  where
    not-not : (b : Bool) → not (not b) ≡ b
    not-not true = refl
    not-not false = refl

-- without one of them
map_removed : (xs : List Key) (n : ℕ) → map key_of (remove xs n) ≡ remove (map key_of xs) n
map_removed [] zero = refl
map_removed [] (suc n) = refl
map_removed (x ∷ xs) zero = refl
map_removed (x ∷ xs) (suc n) = ap (λ ys. key_of x ∷ ys) (map_removed xs n)

pub keys_removed : (old new : List Key) (n : ℕ) → new ≡ remove old n → map key_of new ≡ remove (map key_of old) n
keys_removed old new n is = ap (map key_of) is ∙ map_removed old n

less_different : (old new : List Key) (n : ℕ) → new ≡ remove old n → AreDifferentKeys (map key_of old) → AreDifferentKeys (map key_of new)
less_different old new n is h = subst AreDifferentKeys (sym (keys_removed old new n is)) (removed_new [] (map key_of old) n h)

pub removed_listed : (old new : List Key) (i j : Option (List KeyData)) (n : ℕ) → new ≡ remove old n → MatchOption i (j ≡ None) (λ ks. j ≡ Some (remove ks n)) → IsListed old i → IsListed new j
removed_listed old new None j n is keys h = (less_different old new n is h.0, subst (λ o. IfSome o (λ ks. ks ≡ map key_of new)) (sym keys) tt)
removed_listed old new (Some i) j n is keys h =
    let less : remove i n ≡ map key_of new = ap (λ ks. remove ks n) h.1 ∙ sym (keys_removed old new n is) in
    (less_different old new n is h.0, subst (λ o. IfSome o (λ ks. ks ≡ map key_of new)) (sym keys) less)

pub none_removed : {X : Type 0} (xs : List X) (n : ℕ) → length xs ≤ n → remove xs n ≡ xs
none_removed [] zero h = refl
none_removed [] (suc n) h = refl
none_removed (x ∷ xs) zero h = absurd (omega arith)
none_removed (x ∷ xs) (suc n) h = let rest : length xs ≤ n = omega arith in ap (λ ys. x ∷ ys) (none_removed xs n rest)
