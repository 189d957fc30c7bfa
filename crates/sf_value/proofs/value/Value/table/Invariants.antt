use Rattle.sf_value.proofs.Parting.{Parted}
use Rattle.sf_value.proofs.value.Value.table.Given as goal

abbrev pub invariant-loop-key : goal.invariant-loop-key
invariant-loop-key l = Parted l.fn.rows.items l.key-iterator.rest.items l.keys l.values.items
