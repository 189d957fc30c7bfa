use Rattle.std.proofs.Common.{◌+◌, ◌*◌}
use Rattle.sf_text.proofs.parts.cursor.Cursor.+pattern.Given as goal

abbrev pub decreases-pattern : goal.decreases-pattern
decreases-pattern l = 3 * l.left

abbrev pub decreases-pattern_form : goal.decreases-pattern_form
decreases-pattern_form l = 3 * l.left + 2

abbrev pub decreases-pattern_pair : goal.decreases-pattern_pair
decreases-pattern_pair l = 3 * l.left + 1
