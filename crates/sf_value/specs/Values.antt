-- Types and values.
use Rattle.std.specs.Prelude.{◌≡◌, ◌≢◌, ◌⊎◌, ℕ, suc, ◌+◌, ℤ, Bool, List, [], ◌∷◌, IsTrue, ⊤}
use Rattle.std.specs.Str.{IsUtf8}
pub use Rattle.sf_decimal.specs.Decimals.{is_narrow}

-- A name is its bytes.
abbrev pub Name : Type 0
Name = List ℕ

-- The types of the keys of a table.
pub data KeyKind : Type 0 where
  int_keys : KeyKind
  text_keys : KeyKind

-- The types of values.
pub data Kind : Type 0 where
  unit_kind : Kind
  bool_kind : Kind
  int_kind : Kind
  text_kind : Kind
  pair_kind : Kind → Kind → Kind
  event_kind : Kind → Kind
  table_kind : KeyKind → Kind → Kind

-- A key of a table: a whole number, or the bytes of a text.
pub data KeyData : Type 0 where
  number_key : ℤ → KeyData
  text_key : List ℕ → KeyData

-- A value. A text is its bytes; a table is its keys with their values, in order.
mutual
  pub data Data : Type 0 where
    unit : Data
    truth : Bool → Data
    number : ℤ → Data
    text : List ℕ → Data
    pair : Data → Data → Data
    no_event : Data
    event : Data → Data
    table : Rows → Data

  pub data Rows : Type 0 where
    no_rows : Rows
    row : KeyData → Data → Rows → Rows

-- how many values a value is made of, where a key counts one
abbrev mutual
  pub count : Data → ℕ
  count unit = 1
  count (truth b) = 1
  count (number z) = 1
  count (text s) = 1
  count (pair x y) = suc (count x + count y)
  count no_event = 1
  count (event x) = suc (count x)
  count (table rs) = suc (count_of_rows rs)

  pub count_of_rows : Rows → ℕ
  count_of_rows no_rows = 0
  count_of_rows (row k x rs) = suc (count x + count_of_rows rs)

-- a type is none of pairs
abbrev pub IsNoPair : Kind → Type 0
IsNoPair a = (t u : Kind) → a ≢ pair_kind t u

-- how many types a type is made of; the type of the keys is none
abbrev pub nodes : Kind → ℕ
nodes unit_kind = 1
nodes bool_kind = 1
nodes int_kind = 1
nodes text_kind = 1
nodes (pair_kind t u) = suc (nodes t + nodes u)
nodes (event_kind t) = suc (nodes t)
nodes (table_kind k t) = suc (nodes t)

-- the key is one of these
abbrev pub IsOneOf : KeyData → List KeyData → Type 0
IsOneOf k [] = ⊥
IsOneOf k (l ∷ ls) = (k ≡ l) ⊎ IsOneOf k ls

-- each key is none of those seen and none of those before it
abbrev pub HasNewKeys : List KeyData → Rows → Type 0
HasNewKeys seen no_rows = ⊤
HasNewKeys seen (row k x rs) = (¬ IsOneOf k seen) × HasNewKeys (k ∷ seen) rs

-- no key stands twice
abbrev pub HasDifferentKeys : Rows → Type 0
HasDifferentKeys rs = HasNewKeys [] rs

-- A key has a type: a number is within signed 64 bits, a text is UTF-8.
pub data HasKeyKind : KeyData → KeyKind → Type 0 where
  has_int_key : {z : ℤ} → IsTrue (is_narrow z) → HasKeyKind (number_key z) int_keys
  has_text_key : {s : List ℕ} → IsUtf8 s → HasKeyKind (text_key s) text_keys

-- A value has a type: numbers are within signed 64 bits, texts are UTF-8, the keys of a table are different, and what a value is made of has
-- the types that its type is made of.
mutual
  pub data HasKind : Data → Kind → Type 0 where
    has_unit : HasKind unit unit_kind
    has_bool : {b : Bool} → HasKind (truth b) bool_kind
    has_int : {z : ℤ} → IsTrue (is_narrow z) → HasKind (number z) int_kind
    has_text : {s : List ℕ} → IsUtf8 s → HasKind (text s) text_kind
    has_pair : {x y : Data} {t u : Kind} → HasKind x t → HasKind y u → HasKind (pair x y) (pair_kind t u)
    has_no_event : {t : Kind} → HasKind no_event (event_kind t)
    has_event : {x : Data} {t : Kind} → HasKind x t → HasKind (event x) (event_kind t)
    has_table : {rs : Rows} {k : KeyKind} {t : Kind} → HasRowKinds rs k t → HasDifferentKeys rs → HasKind (table rs) (table_kind k t)

  pub data HasRowKinds : Rows → KeyKind → Kind → Type 0 where
    has_no_rows : {k : KeyKind} {t : Kind} → HasRowKinds no_rows k t
    has_row : {l : KeyData} {x : Data} {rs : Rows} {k : KeyKind} {t : Kind} → HasKeyKind l k → HasKind x t → HasRowKinds rs k t → HasRowKinds (row l x rs) k t

-- the first part of a pair; what is no pair stands for itself
abbrev pub first_of : Data → Data
first_of (pair x y) = x
first_of d = d

-- the second part of a pair; what is no pair stands for itself
abbrev pub second_of : Data → Data
second_of (pair x y) = y
second_of d = d
