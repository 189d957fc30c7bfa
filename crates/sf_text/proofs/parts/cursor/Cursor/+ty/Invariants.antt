use Rattle.std.proofs.Common.{◌+◌, ◌*◌}
use Rattle.sf_text.proofs.parts.cursor.Cursor.+ty.Given as goal

abbrev pub decreases-inner_type : goal.decreases-inner_type
decreases-inner_type l = 4 * l.left

abbrev pub decreases-type_form : goal.decreases-type_form
decreases-type_form l = 4 * l.left + 3

abbrev pub decreases-headed_type : goal.decreases-headed_type
decreases-headed_type l = 4 * l.left + 2

abbrev pub decreases-outer_type : goal.decreases-outer_type
decreases-outer_type l = 4 * l.left + 1

abbrev pub decreases-pair_type : goal.decreases-pair_type
decreases-pair_type l = 4 * l.left + 1
