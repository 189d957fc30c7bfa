use Rattle.std.proofs.Common.{◌+◌, ◌*◌, ◌≤◌, All}
use Rattle.std.specs.Iterator.Adapters.{zip_first, zip_second}
use Rattle.std.specs.Slice.Iter.{iter_rest}
use Rattle.sf_term.specs.Trees.{collection_depth, arguments_depth}
use Rattle.sf_term.specs.Arena.{term_number, argument_nodes, arguments_of, collection_of, ArgumentBelow, HoldsArgument}
use Rattle.sf_term.specs.Parameters.{parameters_of}
use Rattle.sf_check.specs.Contexts.{program_in, context_in}
use Rattle.sf_check.specs.Breaking.{ArgumentsLeft}
use Rattle.sf_check.proofs.differing.+explain.Given as goal

-- a term, and then its form
abbrev pub decreases-part : goal.decreases-part
decreases-part l = 100 * term_number l.term + 91

abbrev pub decreases-explain : goal.decreases-explain
decreases-explain l = 100 * term_number l.term + 90

abbrev pub decreases-explain_sequence : goal.decreases-explain_sequence
decreases-explain_sequence l = 100 * term_number l.term + 89

abbrev pub decreases-explain_parallel : goal.decreases-explain_parallel
decreases-explain_parallel l = 100 * term_number l.term + 89

abbrev pub decreases-explain_fan : goal.decreases-explain_fan
decreases-explain_fan l = 100 * term_number l.term + 89

abbrev pub decreases-explain_sided : goal.decreases-explain_sided
decreases-explain_sided l = 100 * term_number l.term + 89

abbrev pub decreases-explain_headed : goal.decreases-explain_headed
decreases-explain_headed l = 100 * term_number l.term + 89

abbrev pub decreases-explain_transformed : goal.decreases-explain_transformed
decreases-explain_transformed l = 100 * term_number l.term + 89

abbrev pub decreases-explain_basic : goal.decreases-explain_basic
decreases-explain_basic l = 100 * term_number l.term + 89

abbrev pub decreases-explain_recurring : goal.decreases-explain_recurring
decreases-explain_recurring l = 100 * term_number l.term + 89

abbrev pub decreases-explain_continuing : goal.decreases-explain_continuing
decreases-explain_continuing l = 100 * term_number l.term + 89

abbrev pub decreases-explain_call : goal.decreases-explain_call
decreases-explain_call l = 100 * term_number l.term + 89

abbrev pub decreases-explain_gathered : goal.decreases-explain_gathered
decreases-explain_gathered l = 100 * term_number l.term + 89

abbrev pub decreases-explain_releasing : goal.decreases-explain_releasing
decreases-explain_releasing l = 100 * term_number l.term + 89

abbrev pub decreases-explain_editing : goal.decreases-explain_editing
decreases-explain_editing l = 100 * term_number l.term + 89

-- an argument stands between its call and its term
abbrev pub decreases-explain_argument : goal.decreases-explain_argument
decreases-explain_argument l = 100 * term_number l.term + 85

-- what a body is typed by stands between the form and the body
abbrev pub decreases-part_within : goal.decreases-part_within
decreases-part_within l = 100 * term_number l.body + 92

abbrev pub decreases-explain_body : goal.decreases-explain_body
decreases-explain_body l = 100 * term_number l.body.now.term + 93

abbrev pub decreases-explain_inside : goal.decreases-explain_inside
decreases-explain_inside l = 100 * term_number l.body.now.term + 94

abbrev pub decreases-explain_kept : goal.decreases-explain_kept
decreases-explain_kept l = 100 * term_number l.body.now.term + 95

abbrev pub decreases-explain_released : goal.decreases-explain_released
decreases-explain_released l = 100 * term_number l.body.now.term + 95

-- a collection stands between the form that has it and its parts
abbrev pub decreases-explain_edited : goal.decreases-explain_edited
decreases-explain_edited l = 100 * term_number l.term + 74

abbrev pub decreases-explain_edit_inside : goal.decreases-explain_edit_inside
decreases-explain_edit_inside l = 100 * term_number l.term + 73

abbrev pub decreases-explain_edit : goal.decreases-explain_edit
decreases-explain_edit l = 100 * term_number l.term + 72

abbrev pub decreases-members_part_within : goal.decreases-members_part_within
decreases-members_part_within l = 100 * term_number l.form + 71

abbrev pub decreases-members_at_part : goal.decreases-members_at_part
decreases-members_at_part l = 100 * term_number l.form + 70

abbrev pub decreases-members_part : goal.decreases-members_part
decreases-members_part l = 100 * term_number l.form + collection_depth (collection_of (program_in l.context.now) l.collection.now)

-- which arguments are left
abbrev pub invariant-explain_call-loop-argument : goal.invariant-explain_call-loop-argument
invariant-explain_call-loop-argument l =
    let left = iter_rest (zip_first l.argument-iterator) in
    record {
      so : ArgumentsLeft (program_in l.context) (context_in l.context) (argument_nodes (program_in l.context) l.fn.arguments) (parameters_of l.template.parameters) left (parameters_of (iter_rest (zip_second l.argument-iterator)));
      below : All (ArgumentBelow (program_in l.context) (term_number l.term)) left;
      held : All (HoldsArgument (program_in l.context)) left;
      shallow : arguments_depth (arguments_of (program_in l.context) left) ≤ 64;
    }
