use Rattle.std.proofs.Common.{[], refl, sym, subst}
use Rattle.sf_spelling.specs.Scan.{scanned_value}
use Rattle.sf_spelling.specs.Gives.{GivesRead}
use Rattle.sf_spelling.specs.Steps.{spellings}
use Rattle.sf_value.specs.KindView.{key_kind_of}
use Rattle.sf_spelling.proofs.Failing.{fails_then, goes_then, fails_so, fails_on}
use Rattle.sf_spelling.proofs.PairSteps.{first_fails, second_fails, bracket_left}
use Rattle.sf_spelling.proofs.Loops.{value_fails, row_read, kept_none, kept_some, fails, ends, closes, as_many_closed, breaks, shorter, goes_on}
use Rattle.sf_spelling.proofs.read.+value_of.Goals.{rows_in-in_default, rows_in-in-len1-up+else-c-eq125}
use Rattle.sf_spelling.proofs.read.+value_of.Goals as goal

pub rows_in-loop-table-init : goal.rows_in-loop-table-init
rows_in-loop-table-init t c = elim c.if-bytes-lt1.branch [
  | rows_in-in_default w ↦ kept_none (key_kind_of c.args.keys) c.args.values.now c.args.bytes.now c.new.result c.new-2.result.items c.new.ensures c.new-2.ensures.items w.in_default.len_below
  | rows_in-in-len1-up+else-c-eq125 w ↦ kept_some (key_kind_of c.args.keys) c.args.values.now c.args.bytes.now c.new.result c.new-2.result.items c.new.ensures c.new-2.ensures.items w.in-len1-up.len_at_least w.if-c-eq125.false
]

pub rows_in-returns-in_err-rest-clause-rows : goal.rows_in-returns-in_err-rest-clause-rows
rows_in-returns-in_err-rest-clause-rows t c = fails_so _ _ _ _ c.from_residual.ensures.1 (fails (key_kind_of c.args.keys) c.args.values.now c.args.bytes.now _ _ c.loop-table.left.now c.loop-table.invariant _ c.in_err-rest.ensures.fails)

pub rows_in-returns-in-empty-clause-rows : goal.rows_in-returns-in-empty-clause-rows
rows_in-returns-in-empty-clause-rows t c = ([], ends (key_kind_of c.args.keys) c.args.values.now c.args.bytes.now _ _ c.loop-table.left.now c.loop-table.invariant c.in_ok-rest.ensures.row.0 c.in_ok-rest.rest.now c.in_ok-rest.ensures.row.3 c.in-empty.len_below, refl)

pub rows_in-returns-then-c-eq125-2-clause-rows : goal.rows_in-returns-then-c-eq125-2-clause-rows
rows_in-returns-then-c-eq125-2-clause-rows t c = closes (key_kind_of c.args.keys) c.args.values.now c.args.bytes.now _ _ c.loop-table.left.now c.loop-table.invariant c.in_ok-rest.ensures.row.0 c.in_ok-rest.rest.now c.in_ok-rest.ensures.row.3 c.in-len1-up-rest.len_at_least _ _ c.in_ok-rest.ensures.row.1 c.in_ok-rest.ensures.row.2 c.if-c-eq125-2.true

pub rows_in-returns-then-c-eq125-2-clause-as_many : goal.rows_in-returns-then-c-eq125-2-clause-as_many
rows_in-returns-then-c-eq125-2-clause-as_many t c = as_many_closed (key_kind_of c.args.keys) c.args.values.now c.args.bytes.now _ _ c.loop-table.left.now c.loop-table.invariant c.in_ok-rest.ensures.row.0 c.in_ok-rest.rest.now c.in_ok-rest.ensures.row.3 c.in-len1-up-rest.len_at_least _ _ c.in_ok-rest.ensures.row.1 c.in_ok-rest.ensures.row.2

pub rows_in-returns-then-c-ne44-clause-rows : goal.rows_in-returns-then-c-ne44-clause-rows
rows_in-returns-then-c-ne44-clause-rows t c = (c.in_ok-rest.rest.now, breaks (key_kind_of c.args.keys) c.args.values.now c.args.bytes.now _ _ c.loop-table.left.now c.loop-table.invariant c.in_ok-rest.ensures.row.0 c.in_ok-rest.rest.now c.in_ok-rest.ensures.row.3 c.in-len1-up-rest.len_at_least c.if-c-eq125-2.false c.if-c-ne44.true, refl)

pub rows_in-loop-table-smaller : goal.rows_in-loop-table-smaller
rows_in-loop-table-smaller t c = shorter (key_kind_of c.args.keys) c.args.values.now c.args.bytes.now _ _ c.loop-table.left.now c.loop-table.invariant c.in_ok-rest.ensures.row.0 c.in_ok-rest.rest.now c.in_ok-rest.ensures.row.3 c.in-len1-up-rest.len_at_least

pub rows_in-loop-table-preserved : goal.rows_in-loop-table-preserved
rows_in-loop-table-preserved t c = goes_on (key_kind_of c.args.keys) c.args.values.now c.args.bytes.now _ _ c.loop-table.left.now c.loop-table.invariant c.in_ok-rest.ensures.row.0 c.in_ok-rest.rest.now c.in_ok-rest.ensures.row.3 c.in-len1-up-rest.len_at_least _ _ c.in_ok-rest.ensures.row.1 c.in_ok-rest.ensures.row.2 c.if-c-eq125-2.false c.if-c-ne44.false

pub table_of-returns-in_err-rest : goal.table_of-returns-in_err-rest
unfolding scanned_value
table_of-returns-in_err-rest t c = fails_so _ _ _ _ c.from_residual.ensures.1 (fails_then _ _ _ c.in_err-rest.ensures)

pub table_of-returns-in_err-table : goal.table_of-returns-in_err-table
unfolding scanned_value
table_of-returns-in_err-table t c = fails_so _ _ _ _ c.from_residual-in_err-table.ensures.1 (goes_then _ _ _ _ c.in_ok-rest.ensures (fails_then _ _ _ c.in_err-table.ensures.rows))

pub row_in-returns-in_err-rest-clause-fails : goal.row_in-returns-in_err-rest-clause-fails
row_in-returns-in_err-rest-clause-fails t c = fails_on _ _ _ c.from_residual.ensures.1 (fails_then _ _ _ c.in_err-rest.ensures.fails)

pub row_in-returns-in_err-value-clause-fails : goal.row_in-returns-in_err-value-clause-fails
row_in-returns-in_err-value-clause-fails t c = fails_on _ _ _ c.from_residual-in_err-value.ensures.1
    (value_fails (key_kind_of c.args.keys) (scanned_value c.args.values.now) (spellings c.args.rows.now.keys) c.args.bytes.now c.in_ok-rest.ensures.key.0 c.in_ok-rest.rest.now c.in_ok-rest.ensures.key.2 _ c.in_err-value.ensures)

pub row_in-returns-clause-row : goal.row_in-returns-clause-row
row_in-returns-clause-row t c = (
  (c.in_ok-rest.ensures.key.0, c.in_ok-value.value),
  c.in_ok-rest.ensures.key.1,
  c.in_ok-put_value.ensures.ok,
  row_read (key_kind_of c.args.keys) (scanned_value c.args.values.now) (spellings c.args.rows.now.keys) c.args.bytes.now c.in_ok-rest.ensures.key.0 c.in_ok-rest.rest.now c.in_ok-rest.ensures.key.2 c.in_ok-value.value c.in_ok-value.rest.now c.in_ok-value.ensures,
)

pub pair_of-returns-in_err-x : goal.pair_of-returns-in_err-x
pair_of-returns-in_err-x t c = fails_so _ _ _ _ c.from_residual.ensures.1 (first_fails c.args.first.now c.args.second.now c.args.bytes.now _ c.in_err-x.ensures)

pub pair_of-returns-in_err-y : goal.pair_of-returns-in_err-y
pair_of-returns-in_err-y t c = fails_so _ _ _ _ c.from_residual-in_err-y.ensures.1 (second_fails c.args.first.now c.args.second.now c.args.bytes.now c.in_ok-x.x c.in_ok-x.rest.now c.in_ok-x.ensures _ c.in_err-y.ensures)

pub pair_of-returns : goal.pair_of-returns
pair_of-returns t c =
    let left = bracket_left c.args.first.now c.args.second.now c.args.bytes.now c.in_ok-x.x c.in_ok-x.rest.now c.in_ok-x.ensures c.in_ok-y.y c.in_ok-y.rest.now c.in_ok-y.ensures in
    subst (λ o. GivesRead (λ x. (x.0, x.1.now)) c.closed_pair.result o) (sym left) c.closed_pair.ensures
