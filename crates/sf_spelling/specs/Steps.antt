-- What the private readers of values read in a step or two.
use Rattle.std.specs.Prelude.{ℕ, List, map, Ok, codes}
use Rattle.sf_value.specs.Values.{KeyData, Kind, Data, pair, no_event, event, Rows, table}
use Rattle.sf_spelling.specs.Spelling.{key_spelling}
use Rattle.sf_spelling.specs.Scan.{Scanned, ◌>>=◌, byte_at, word_at, scanned_value}

-- a byte and a value
abbrev pub value_behind : ℕ → Kind → List ℕ → Scanned Data
value_behind c t s = byte_at c s >>= scanned_value t

-- the closing bracket of a pair whose values were read
abbrev pub pair_closed : Data → Data → List ℕ → Scanned Data
pair_closed x y s = byte_at 41 s >>= λ e. Ok (pair x y, e)

-- `none`
abbrev pub none_at : List ℕ → Scanned Data
none_at s = word_at (codes "none") s >>= λ e. Ok (no_event, e)

-- an event whose payload was read up to these bytes
abbrev pub event_before : Data → List ℕ → Scanned Data
event_before x s = Ok (event x, s)

-- a table whose rows were read up to these bytes
abbrev pub table_before : Rows → List ℕ → Scanned Data
table_before rs s = Ok (table rs, s)

-- the spellings of keys
abbrev pub spellings : List KeyData → List (List ℕ)
spellings ks = map key_spelling ks
