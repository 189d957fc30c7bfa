use Rattle.std.proofs.Common.{◌+◌, ◌*◌, length}
use Rattle.sf_text.specs.Parsing.Answers.{ahead}
use Rattle.sf_text.specs.Parsing.Consuming.{spots_ahead}
use Rattle.sf_text.proofs.Lists.{ReadArguments}
use Rattle.sf_text.proofs.term.+term.Given as goal

abbrev pub decreases-term : goal.decreases-term
decreases-term l = 8 * l.left

abbrev pub decreases-form : goal.decreases-form
decreases-form l = 8 * l.left + 7

abbrev pub decreases-behind_head : goal.decreases-behind_head
decreases-behind_head l = 8 * l.left + 6

abbrev pub decreases-collection : goal.decreases-collection
decreases-collection l = 8 * l.left

abbrev pub decreases-collection_form : goal.decreases-collection_form
decreases-collection_form l = 8 * l.left + 7

abbrev pub decreases-collection_behind : goal.decreases-collection_behind
decreases-collection_behind l = 8 * l.left + 6

abbrev pub decreases-added : goal.decreases-added
decreases-added l = 8 * l.left + 5

abbrev pub decreases-dropped : goal.decreases-dropped
decreases-dropped l = 8 * l.left + 5

abbrev pub decreases-kept : goal.decreases-kept
decreases-kept l = 8 * l.left + 5

abbrev pub decreases-chosen : goal.decreases-chosen
decreases-chosen l = 8 * l.left + 5

abbrev pub decreases-members : goal.decreases-members
decreases-members l = 8 * l.left + 1

abbrev pub decreases-gathered : goal.decreases-gathered
decreases-gathered l = 8 * l.left + 5

abbrev pub decreases-releasing : goal.decreases-releasing
decreases-releasing l = 8 * l.left + 5

abbrev pub decreases-edit : goal.decreases-edit
decreases-edit l = 8 * l.left + 2

abbrev pub decreases-editing : goal.decreases-editing
decreases-editing l = 8 * l.left + 5

abbrev pub decreases-sided : goal.decreases-sided
decreases-sided l = 8 * l.left + 5

abbrev pub decreases-headed : goal.decreases-headed
decreases-headed l = 8 * l.left + 5

abbrev pub decreases-transformed : goal.decreases-transformed
decreases-transformed l = 8 * l.left + 5

abbrev pub decreases-switching : goal.decreases-switching
decreases-switching l = 8 * l.left + 5

abbrev pub decreases-joined : goal.decreases-joined
decreases-joined l = 8 * l.left + 5

abbrev pub decreases-continuing : goal.decreases-continuing
decreases-continuing l = 8 * l.left + 5

abbrev pub decreases-body : goal.decreases-body
decreases-body l = 8 * l.left + 1

abbrev pub decreases-call : goal.decreases-call
decreases-call l = 8 * l.left + 5

abbrev pub decreases-arguments : goal.decreases-arguments
decreases-arguments l = 8 * l.left + 4

abbrev pub decreases-some_arguments : goal.decreases-some_arguments
decreases-some_arguments l = 8 * l.left + 3

abbrev pub decreases-argument : goal.decreases-argument
decreases-argument l = 8 * l.left + 2

abbrev pub invariant-some_arguments-loop-more : goal.invariant-some_arguments-loop-more
invariant-some_arguments-loop-more l = ReadArguments l.version l.left l.fn.reader.program l.reader.program l.fn.reader.cursor.tokens.now l.arguments.items l.more (ahead l.reader.cursor) (spots_ahead l.reader.cursor)

abbrev pub decreases-some_arguments-loop-more : goal.decreases-some_arguments-loop-more
decreases-some_arguments-loop-more l = length l.reader.cursor.tokens.now
