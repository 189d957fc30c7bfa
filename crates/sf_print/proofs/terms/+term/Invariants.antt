use Rattle.std.proofs.Common.{◌≡◌, ◌+◌, ◌*◌, max, take, map}
use Rattle.sf_term.specs.Trees.{collection_depth}
use Rattle.sf_term.specs.Arena.{term_number, collection_of, collection_tree}
use Rattle.sf_print.specs.Drafts.{append_tokens}
use Rattle.sf_print.specs.Arguments.{spell_argument}
use Rattle.sf_print.proofs.Listing.{separated}
use Rattle.sf_print.proofs.terms.+term.Given as goal

-- a term, then its form with the arguments of a call, and one of them, and then collections by their depth, which is at most 64
abbrev pub decreases-write_term : goal.decreases-write_term
decreases-write_term l = 200 * term_number l.id + 195

abbrev pub decreases-write_call : goal.decreases-write_call
decreases-write_call l = 200 * term_number l.call + 194

abbrev pub decreases-write_further : goal.decreases-write_further
decreases-write_further l = 200 * term_number l.call + 193

abbrev pub decreases-write_argument : goal.decreases-write_argument
decreases-write_argument l = 200 * term_number l.call + 192

abbrev pub decreases-write_gathered : goal.decreases-write_gathered
decreases-write_gathered l = 200 * term_number l.id + 194

abbrev pub decreases-write_releasing : goal.decreases-write_releasing
decreases-write_releasing l = 200 * term_number l.id + 194

abbrev pub decreases-write_editing : goal.decreases-write_editing
decreases-write_editing l = 200 * term_number l.id + 194

abbrev pub decreases-write_edit : goal.decreases-write_edit
decreases-write_edit l = 200 * term_number l.form + 193

abbrev pub decreases-write_members : goal.decreases-write_members
decreases-write_members l = 200 * term_number l.form + 2 * collection_depth (collection_tree l.program.now l.members) + 1

abbrev pub decreases-write_collection : goal.decreases-write_collection
decreases-write_collection l = 200 * term_number l.form + 2 * collection_depth (collection_of l.program.now l.collection.now)

abbrev pub decreases-write_added : goal.decreases-write_added
decreases-write_added l = 200 * term_number l.form + 2 * collection_depth (collection_of l.program.now l.added.now.members.now) + 1

abbrev pub decreases-write_dropped : goal.decreases-write_dropped
decreases-write_dropped l = 200 * term_number l.form + 2 * collection_depth (collection_of l.program.now l.members.now) + 1

abbrev pub decreases-write_kept : goal.decreases-write_kept
decreases-write_kept l = 200 * term_number l.form + 2 * collection_depth (collection_of l.program.now l.members.now) + 1

abbrev pub decreases-write_chosen : goal.decreases-write_chosen
decreases-write_chosen l = 200 * term_number l.form + 2 * max (collection_depth (collection_of l.program.now l.chosen.now.first.now)) (collection_depth (collection_of l.program.now l.chosen.now.second.now)) + 1

-- the form of a term stands between the term and its parts
abbrev pub decreases-write_joined : goal.decreases-write_joined
decreases-write_joined l = 200 * max (term_number l.first) (term_number l.second) + 196

abbrev pub decreases-write_headed : goal.decreases-write_headed
decreases-write_headed l = 200 * term_number l.part + 196

abbrev pub decreases-write_transformed : goal.decreases-write_transformed
decreases-write_transformed l = 200 * term_number l.part + 196

abbrev pub decreases-write_body : goal.decreases-write_body
decreases-write_body l = 200 * term_number l.body + 196

abbrev pub decreases-write_switching : goal.decreases-write_switching
decreases-write_switching l = 200 * max (term_number l.switch.source) (term_number l.switch.body) + 197

abbrev pub decreases-write_continuing : goal.decreases-write_continuing
decreases-write_continuing l = 200 * max (term_number l.form.source) (max (term_number l.form.observer) (term_number l.form.body)) + 197

abbrev pub invariant-write_further-loop-argument : goal.invariant-write_further-loop-argument
invariant-write_further-loop-argument l = l.draft ≡ append_tokens l.initial.draft (separated (map (spell_argument l.version l.program) (take l.argument-index l.arguments)))
