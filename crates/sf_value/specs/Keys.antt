-- Keys of tables.
use Rattle.std.specs.Prelude.{ℕ, suc, Bool, false, cond, List, [], ◌∷◌, Option, None, Some, ⊤, bytes_eq, string_bytes}
use Rattle.std.specs.Option.{option_map}
use Rattle.std.specs.Ordering.{int_eq}
use Rattle.sf_value.specs.Values.{KeyData, number_key, text_key, IsOneOf}
use Rattle.sf_value.specs.declared.value.Key.{Key}
use Rattle.sf_value.specs.declared.value.Key.TheVariants.{Int, Text}

-- what a key means
abbrev pub key_of : Key → KeyData
key_of (Int z) = number_key z
key_of (Text s) = text_key (string_bytes s.value)

-- whether two keys are equal
abbrev pub equal_keys : KeyData → KeyData → Bool
equal_keys (number_key a) (number_key b) = int_eq a b
equal_keys (text_key s) (text_key t) = bytes_eq s t
equal_keys k l = false

-- the first place of a key, from 0
abbrev pub key_index : KeyData → List KeyData → Option ℕ
key_index k [] = None
key_index k (l ∷ ks) = cond (equal_keys k l) (Some 0) (option_map suc (key_index k ks))

-- each key is none of those seen and none of those before it
abbrev pub AreNew : List KeyData → List KeyData → Type 0
AreNew seen [] = ⊤
AreNew seen (k ∷ ks) = (¬ IsOneOf k seen) × AreNew (k ∷ seen) ks

-- no key stands twice
abbrev pub AreDifferentKeys : List KeyData → Type 0
AreDifferentKeys ks = AreNew [] ks
