-- Keys with their places.
use Rattle.std.specs.Prelude.{◌≡◌, ℕ, ◌-◌, ◌<◌, ℤ, cond, not, nat_eq, List, [], ◌∷◌, ◌++◌, map, length, Option, ltb, string_bytes}
use Rattle.std.specs.List.{AllByRecursion}
use Rattle.std.specs.Map.{lookup}
use Rattle.std.specs.declared.rc.Rc.{Rc}
use Rattle.std.specs.declared.string.String.{String}
use Rattle.sf_value.specs.Values.{KeyData, number_key, text_key}
use Rattle.sf_value.specs.Keys.{equal_keys, key_index, AreDifferentKeys}

-- a key before the first one that has a later place
abbrev pub put_by_place : KeyData × ℕ → List (KeyData × ℕ) → List (KeyData × ℕ)
put_by_place e [] = e ∷ []
put_by_place e (x ∷ xs) = cond (ltb e.1 x.1) (e ∷ x ∷ xs) (x ∷ put_by_place e xs)

-- keys in the order of their places
abbrev pub by_place : List (KeyData × ℕ) → List (KeyData × ℕ)
by_place [] = []
by_place (e ∷ es) = put_by_place e (by_place es)

abbrev pub keys_by_place : List (KeyData × ℕ) → List KeyData
keys_by_place es = map (λ e. e.0) (by_place es)

-- the place of a key
abbrev pub found_place : KeyData → List (KeyData × ℕ) → Option ℕ
found_place k es = lookup (equal_keys k) es

-- each kind of keys with the places
abbrev pub placed : {A Y : Type 0} → List (ℤ × ℕ) → List (Rc (String Y) A × ℕ) → List (KeyData × ℕ)
placed {A} {Y} ns ts = map (λ e. (number_key e.0, e.1)) ns ++ map (λ (e : Rc (String Y) A × ℕ). (text_key (string_bytes e.0.value), e.1)) ts

-- the keys are different, and the place of each is where it stands in their order
pub record IsIndex (es : List (KeyData × ℕ)) : Type 0 where
  pub below : AllByRecursion (λ e. e.1 < length es) es
  pub different : AreDifferentKeys (keys_by_place es)
  pub places : (k : KeyData) → found_place k es ≡ key_index k (keys_by_place es)

-- a place once the one at i was taken out
abbrev pub moved_up : ℕ → ℕ → ℕ
moved_up i n = cond (ltb i n) (n - 1) n

-- what is left without the place i
abbrev pub without_place : {K : Type 0} → ℕ → List (K × ℕ) → List (K × ℕ)
without_place i [] = []
without_place i (e ∷ es) = cond (not (nat_eq e.1 i)) ((e.0, moved_up i e.1) ∷ without_place i es) (without_place i es)
