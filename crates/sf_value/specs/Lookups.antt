-- The values in a table.
use Rattle.std.specs.Prelude.{cond, Option, Some, None}
use Rattle.sf_value.specs.Values.{KeyData, Data, table, Rows, no_rows, row}
pub use Rattle.sf_value.specs.Keys.{equal_keys}

-- the value under a key, if there is one
abbrev pub row_value : KeyData → Rows → Option Data
row_value k no_rows = None
row_value k (row l x rs) = cond (equal_keys k l) (Some x) (row_value k rs)

-- the rows of a table; none of another value
abbrev pub table_rows : Data → Rows
table_rows (table rs) = rs
table_rows d = no_rows
