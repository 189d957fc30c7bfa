-- The data that a `Value` stands for.
use Rattle.std.specs.Prelude.{◌≡◌, ◌≢◌, List, [], ◌∷◌, length, IsTrue, ⊤, string_bytes}
use Rattle.std.specs.Str.{IsUtf8}
use Rattle.sf_value.specs.Values.{KeyData, Data, unit, truth, number, text, pair, no_event, event, table, Rows, no_rows, row, is_narrow, HasDifferentKeys}
pub use Rattle.sf_value.specs.Keys.{key_of}
use Rattle.sf_value.specs.declared.value.Key.{Key}
use Rattle.sf_value.specs.declared.value.Form.{Form}
use Rattle.sf_value.specs.declared.value.Form.TheVariants.{Unit, Bool, Int, Text, Pair, NoEvent, UnitEvent, Event, Table}

-- the rows of a list
abbrev pub rows_of : List (Key × Data) → Rows
rows_of [] = no_rows
rows_of (e ∷ es) = row (key_of e.0) e.1 (rows_of es)

-- each value under the key at its place, as far as both lists go
abbrev pub keyed_rows : List KeyData → List Data → Rows
keyed_rows [] ds = no_rows
keyed_rows (k ∷ ks) [] = no_rows
keyed_rows (k ∷ ks) (d ∷ ds) = row k d (keyed_rows ks ds)

-- what a form means
abbrev pub data_of : Form → Data
data_of Unit = unit
data_of (Bool b) = truth b
data_of (Int z) = number z
data_of (Text s) = text (string_bytes s.value)
data_of (Pair x) = pair x.value.first x.value.second
data_of NoEvent = no_event
data_of UnitEvent = event unit
data_of (Event x) = event x.value
data_of (Table t) = table (keyed_rows t.value.keys.value t.value.values.items)

-- a number is within signed 64 bits, a text is UTF-8, the keys of a table are different; this holds of each value that a value is made of
abbrev pub IsProper : Data → Type 0
IsProper (number z) = IsTrue (is_narrow z)
IsProper (text s) = IsUtf8 s
IsProper (table rs) = HasDifferentKeys rs
IsProper d = ⊤

-- a table has as many values as keys, and an event that has a node carries something
abbrev pub IsFilled : Form → Type 0
IsFilled (Table t) = length t.value.keys.value ≡ length t.value.values.items
IsFilled (Event x) = x.value ≢ unit
IsFilled f = ⊤
