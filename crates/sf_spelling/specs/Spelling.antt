-- How a value is spelled.
use Rattle.std.specs.Prelude.{ℕ, ◌==◌, true, false, cond, List, [], ◌∷◌, ◌++◌, codes}
use Rattle.std.specs.List.{flat_map}
use Rattle.sf_decimal.specs.Decimals.{integer}
use Rattle.sf_value.specs.Values.{KeyData, number_key, text_key, Data, unit, truth, number, text, pair, no_event, event, table, Rows, no_rows, row}

-- a quote and a backslash have a backslash before them, a line feed is a backslash and an n
abbrev pub escaped : ℕ → List ℕ
escaped c = cond (c == 34) (92 ∷ 34 ∷ []) (cond (c == 92) (92 ∷ 92 ∷ []) (cond (c == 10) (92 ∷ 110 ∷ []) (c ∷ [])))

-- a text between quotes
abbrev pub quoted : List ℕ → List ℕ
quoted s = 34 ∷ (flat_map escaped s ++ 34 ∷ [])

abbrev pub key_spelling : KeyData → List ℕ
key_spelling (number_key z) = integer z
key_spelling (text_key s) = quoted s

-- a word, a number, a text, or spellings between brackets; each row of a table but the first stands after a comma
abbrev mutual
  pub spelling : Data → List ℕ
  spelling unit = codes "()"
  spelling (truth true) = codes "true"
  spelling (truth false) = codes "false"
  spelling (number z) = integer z
  spelling (text s) = quoted s
  spelling (pair x y) = (40 ∷ spelling x) ++ (44 ∷ spelling y) ++ 41 ∷ []
  spelling no_event = codes "none"
  spelling (event x) = codes "event " ++ spelling x
  spelling (table rs) = (123 ∷ rows_spelling rs) ++ 125 ∷ []

  pub rows_spelling : Rows → List ℕ
  rows_spelling no_rows = []
  rows_spelling (row k x rs) = (key_spelling k ++ (58 ∷ spelling x)) ++ more_spelling rs

  pub more_spelling : Rows → List ℕ
  more_spelling no_rows = []
  more_spelling (row k x rs) = (44 ∷ (key_spelling k ++ (58 ∷ spelling x))) ++ more_spelling rs
