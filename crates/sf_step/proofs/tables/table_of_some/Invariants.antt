use Rattle.std.proofs.Common.{◌≡◌, ◌++◌, map}
use Rattle.sf_value.specs.View.{key_of, keyed_rows}
use Rattle.sf_step.proofs.Rows.{rows_then, keys_of_rows}
use Rattle.sf_step.proofs.tables.table_of_some.Given as goal

abbrev pub invariant-loop-key : goal.invariant-loop-key
invariant-loop-key l = record {
  made : rows_then l.rows.items (keyed_rows (map key_of l.key-iterator.a.rest.now) l.key-iterator.b.rest.items) ≡ keyed_rows l.keys l.fn.values.items;
  under : keys_of_rows l.rows.items ++ map key_of l.key-iterator.a.rest.now ≡ l.keys;
}
