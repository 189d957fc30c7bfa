use Rattle.std.proofs.Common.{◌+◌, ◌*◌, length}
use Rattle.sf_value.specs.Values.{nodes}
use Rattle.sf_value.specs.KindView.{key_kind_of}
use Rattle.sf_spelling.specs.Scan.{scanned_value}
use Rattle.sf_spelling.proofs.Loops.{Follows}
use Rattle.sf_spelling.proofs.read.+value_of.Given as goal

abbrev pub decreases-value_of : goal.decreases-value_of
decreases-value_of l = 6 * nodes l.ty.now

abbrev pub decreases-part_of : goal.decreases-part_of
decreases-part_of l = 6 * nodes l.ty.now + 1

abbrev pub decreases-value_behind : goal.decreases-value_behind
decreases-value_behind l = 6 * nodes l.ty.now + 2

abbrev pub decreases-pair_of : goal.decreases-pair_of
decreases-pair_of l = 6 * nodes l.first.now + 6 * nodes l.second.now + 3

abbrev pub decreases-event_of : goal.decreases-event_of
decreases-event_of l = 6 * nodes l.payload.now + 2

abbrev pub decreases-table_of : goal.decreases-table_of
decreases-table_of l = 6 * nodes l.values.now + 5

abbrev pub decreases-rows_in : goal.decreases-rows_in
decreases-rows_in l = 6 * nodes l.values.now + 4

abbrev pub decreases-row_in : goal.decreases-row_in
decreases-row_in l = 6 * nodes l.values.now + 3

abbrev pub invariant-rows_in-loop-table : goal.invariant-rows_in-loop-table
invariant-rows_in-loop-table l =
    Follows (key_kind_of l.keys) (scanned_value l.values) l.bytes l.table.keys l.table.values.items l.left

abbrev pub decreases-rows_in-loop-table : goal.decreases-rows_in-loop-table
decreases-rows_in-loop-table l = length l.left
