-- The rows of tables in code.
use Rattle.std.specs.Prelude.{◌≡◌, ℕ, List, ◌∷◌, ◌++◌, map, length, ⊤}
use Rattle.sf_value.specs.Values.{Data, IsOneOf, HasDifferentKeys}
use Rattle.sf_value.specs.View.{key_of, rows_of}
use Rattle.sf_value.specs.declared.value.Key.{Key}
use Rattle.sf_value.specs.declared.table.TableRefusal.{TableRefusal}
use Rattle.sf_value.specs.declared.table.TableRefusal.TheVariants.{DuplicateKey, Memory}

-- the key of the row at this index stands before it, and no key before it does so
pub record IsFirstRepeatedKey (es : List (Key × Data)) (i : ℕ) : Type 0 where
  pub front : List (Key × Data)
  pub key : Key
  pub value : Data
  pub more : List (Key × Data)
  pub cut : es ≡ front ++ (key, value) ∷ more
  pub len : length front ≡ i
  pub again : IsOneOf (key_of key) (map (λ e. key_of e.0) front)
  pub before : HasDifferentKeys (rows_of front)

-- why rows make no table
abbrev pub RefusesRows : List (Key × Data) → TableRefusal → Type 0
RefusesRows es (DuplicateKey i) = IsFirstRepeatedKey es i
RefusesRows es Memory = ⊤
