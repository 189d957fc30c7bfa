use Rattle.std.proofs.Common.{◌+◌, ◌*◌}
use Rattle.sf_text.proofs.parts.reader.Reader.+expression.Given as goal

abbrev pub decreases-expression : goal.decreases-expression
decreases-expression l = 5 * l.left

abbrev pub decreases-expression_form : goal.decreases-expression_form
decreases-expression_form l = 5 * l.left + 4

abbrev pub decreases-bracketed : goal.decreases-bracketed
decreases-bracketed l = 5 * l.left + 3

abbrev pub decreases-worded : goal.decreases-worded
decreases-worded l = 5 * l.left + 3

abbrev pub decreases-linked : goal.decreases-linked
decreases-linked l = 5 * l.left + 1

abbrev pub decreases-prefixed : goal.decreases-prefixed
decreases-prefixed l = 5 * l.left + 1

abbrev pub decreases-one_in_brackets : goal.decreases-one_in_brackets
decreases-one_in_brackets l = 5 * l.left + 1

abbrev pub decreases-two_in_brackets : goal.decreases-two_in_brackets
decreases-two_in_brackets l = 5 * l.left + 1

abbrev pub decreases-conditional : goal.decreases-conditional
decreases-conditional l = 5 * l.left + 1

abbrev pub decreases-let_in : goal.decreases-let_in
decreases-let_in l = 5 * l.left + 1

abbrev pub decreases-one_and_function : goal.decreases-one_and_function
decreases-one_and_function l = 5 * l.left + 2

abbrev pub decreases-two_and_function : goal.decreases-two_and_function
decreases-two_and_function l = 5 * l.left + 2

abbrev pub decreases-called : goal.decreases-called
decreases-called l = 5 * l.left + 1

abbrev pub decreases-mapping_parts : goal.decreases-mapping_parts
decreases-mapping_parts l = 5 * l.left + 1
