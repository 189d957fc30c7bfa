use Rattle.std.proofs.Common.{◌+◌, ◌*◌, map}
use Rattle.sf_value.specs.Values.{count, count_of_rows}
use Rattle.sf_value.specs.View.{key_of, keyed_rows}
use Rattle.sf_spelling.proofs.write.+append.Given as goal

abbrev pub decreases-append : goal.decreases-append
decreases-append l = 2 * count l.value.now

abbrev pub decreases-append_pair : goal.decreases-append_pair
decreases-append_pair l = 2 * (count l.first.now + count l.second.now) + 1

abbrev pub decreases-append_table : goal.decreases-append_table
decreases-append_table l = 2 * count_of_rows (keyed_rows (map key_of l.rows.keys.now) l.rows.values.now) + 1

abbrev pub decreases-append_rows : goal.decreases-append_rows
decreases-append_rows l = 2 * count_of_rows (keyed_rows (map key_of l.rows.keys.now) l.rows.values.now)

abbrev pub decreases-append_more : goal.decreases-append_more
decreases-append_more l = 2 * count_of_rows (keyed_rows (map key_of l.rows.keys.now) l.rows.values.now)
