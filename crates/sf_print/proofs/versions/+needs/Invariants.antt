use Rattle.std.proofs.Common.{◌≡◌, ◌+◌, ◌*◌, false, take}
use Rattle.std.specs.List.{list_any}
use Rattle.sf_term.specs.Trees.{collection_depth}
use Rattle.sf_term.specs.Arena.{term_number, collection_of, collection_tree}
use Rattle.sf_print.specs.Arguments.{argument_needs_two}
use Rattle.sf_print.proofs.versions.+needs.Given as goal

-- a term, then the arguments of a call, and one of them, and then collections by their depth, which is at most 64
abbrev pub decreases-term_needs_two : goal.decreases-term_needs_two
decreases-term_needs_two l = 200 * term_number l.id + 195

abbrev pub decreases-arguments_need_two : goal.decreases-arguments_need_two
decreases-arguments_need_two l = 200 * term_number l.call + 194

abbrev pub decreases-argument_needs_two : goal.decreases-argument_needs_two
decreases-argument_needs_two l = 200 * term_number l.call + 193

abbrev pub decreases-releasing_needs_two : goal.decreases-releasing_needs_two
decreases-releasing_needs_two l = 200 * term_number l.id + 194

abbrev pub decreases-members_need_two : goal.decreases-members_need_two
decreases-members_need_two l = 200 * term_number l.form + collection_depth (collection_tree l.program.now l.members) + 1

abbrev pub decreases-collection_needs_two : goal.decreases-collection_needs_two
decreases-collection_needs_two l = 200 * term_number l.form + collection_depth (collection_of l.program.now l.collection.now)

abbrev pub invariant-arguments_need_two-loop-argument : goal.invariant-arguments_need_two-loop-argument
invariant-arguments_need_two-loop-argument l = list_any (argument_needs_two l.program) (take l.argument-index l.arguments) ≡ false
