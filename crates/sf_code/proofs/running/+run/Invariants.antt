use Rattle.std.proofs.Common.{◌≡◌, ◌+◌, ◌*◌, map, length}
use Rattle.sf_value.specs.View.{key_of, keyed_rows}
use Rattle.sf_code.specs.CodeView.{code_of}
use Rattle.sf_code.specs.FrameView.{frames_of}
use Rattle.sf_code.proofs.Rows.{fold_worth}
use Rattle.sf_code.proofs.Sized.{code_size}
use Rattle.sf_code.proofs.running.+run.Given as goal

abbrev pub decreases-run : goal.decreases-run
decreases-run g l = 8 * code_size (code_of l.code.now)

abbrev pub decreases-worth_of : goal.decreases-worth_of
decreases-worth_of g l = 8 * code_size (code_of l.code.now) + 1

abbrev pub decreases-answer : goal.decreases-answer
decreases-answer g l = 8 * code_size (code_of l.body.now) + 2

abbrev pub decreases-pair : goal.decreases-pair
decreases-pair g l = 8 * (code_size (code_of l.first.now) + code_size (code_of l.second.now)) + 4

abbrev pub decreases-applied : goal.decreases-applied
decreases-applied g l = 8 * code_size (code_of l.part.now) + 4

abbrev pub decreases-operation : goal.decreases-operation
decreases-operation g l = 8 * (code_size (code_of l.left.now) + code_size (code_of l.right.now)) + 4

abbrev pub decreases-conditional : goal.decreases-conditional
decreases-conditional g l = 8 * (code_size (code_of l.condition.now) + (code_size (code_of l.first.now) + code_size (code_of l.second.now))) + 4

abbrev pub decreases-called : goal.decreases-called
decreases-called g l = 8 * code_size (code_of l.part.now) + 4

abbrev pub decreases-mapped : goal.decreases-mapped
decreases-mapped g l = 8 * (code_size (code_of l.part.now) + code_size (code_of l.body.now)) + 6

abbrev pub decreases-matched : goal.decreases-matched
decreases-matched g l = 8 * (code_size (code_of l.first.now) + (code_size (code_of l.second.now) + code_size (code_of l.body.now))) + 4

abbrev pub decreases-merged : goal.decreases-merged
decreases-merged g l = 8 * (code_size (code_of l.first.now) + (code_size (code_of l.second.now) + code_size (code_of l.body.now))) + 6

abbrev pub decreases-fold : goal.decreases-fold
decreases-fold g l = 8 * (code_size (code_of l.first.now) + (code_size (code_of l.second.now) + code_size (code_of l.body.now))) + 4

abbrev pub decreases-fold_rows : goal.decreases-fold_rows
decreases-fold_rows g l = 8 * code_size (code_of l.body.now) + 3

abbrev pub decreases-merge : goal.decreases-merge
decreases-merge g l = 8 * code_size (code_of l.body.now) + 5

abbrev pub decreases-filter : goal.decreases-filter
decreases-filter g l = 8 * code_size (code_of l.body.now) + 5

abbrev pub decreases-map : goal.decreases-map
decreases-map g l = 8 * code_size (code_of l.body.now) + 5

abbrev pub invariant-fold_rows-loop-rest : goal.invariant-fold_rows-loop-rest
invariant-fold_rows-loop-rest g l =
    fold_worth (code_of l.body) (frames_of l.frames) (g.F.Holds.answers l.functions) (keyed_rows (map key_of l.rest.keys.now) l.rest.values.now) l.so_far
    ≡ fold_worth (code_of l.body) (frames_of l.frames) (g.F.Holds.answers l.functions) (keyed_rows (map key_of l.rows.keys.now) l.rows.values.now) l.initial.so_far

abbrev pub decreases-fold_rows-loop-rest : goal.decreases-fold_rows-loop-rest
decreases-fold_rows-loop-rest g l = length l.rest.keys.now

abbrev pub decreases-arithmetic : goal.decreases-arithmetic
decreases-arithmetic g l = 8 * (code_size (code_of l.left.now) + code_size (code_of l.right.now)) + 4

abbrev pub decreases-number : goal.decreases-number
decreases-number g l = 8 * code_size (code_of l.code.now) + 2

abbrev pub decreases-truth : goal.decreases-truth
decreases-truth g l = 8 * code_size (code_of l.code.now) + 2

abbrev pub decreases-truth_run : goal.decreases-truth_run
decreases-truth_run g l = 8 * code_size (code_of l.code.now) + 1

abbrev pub decreases-compared : goal.decreases-compared
decreases-compared g l = 8 * (code_size (code_of l.left.now) + code_size (code_of l.right.now)) + 6

abbrev pub decreases-combined : goal.decreases-combined
decreases-combined g l = 8 * (code_size (code_of l.left.now) + code_size (code_of l.right.now)) + 6

abbrev pub decreases-number_run : goal.decreases-number_run
decreases-number_run g l = 8 * code_size (code_of l.code.now) + 1
