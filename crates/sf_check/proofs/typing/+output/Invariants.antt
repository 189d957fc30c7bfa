use Rattle.std.proofs.Common.{◌+◌, ◌*◌, ◌≤◌, All}
use Rattle.std.specs.Iterator.Adapters.{zip_first, zip_second}
use Rattle.std.specs.Slice.Iter.{iter_rest}
use Rattle.sf_term.specs.Trees.{collection_depth, arguments_depth}
use Rattle.sf_term.specs.Arena.{term_number, term_spot_at, argument_nodes, arguments_of, collection_of, ArgumentBelow, HoldsArgument}
use Rattle.sf_term.specs.Parameters.{parameters_of}
use Rattle.sf_check.specs.Contexts.{program_in, context_in}
use Rattle.sf_check.proofs.Calls.{SoFar}
use Rattle.sf_check.proofs.typing.+output.Given as goal

-- a term, then its form, and then the kind of the form
abbrev pub decreases-judge : goal.decreases-judge
decreases-judge l = 100 * term_number l.term + 91

abbrev pub decreases-judge_form : goal.decreases-judge_form
decreases-judge_form l = 100 * term_number l.term + 90

abbrev pub decreases-joined_output : goal.decreases-joined_output
decreases-joined_output l = 100 * term_number l.term + 89

abbrev pub decreases-sided_output : goal.decreases-sided_output
decreases-sided_output l = 100 * term_number l.term + 89

abbrev pub decreases-headed_output : goal.decreases-headed_output
decreases-headed_output l = 100 * term_number l.term + 89

abbrev pub decreases-transformed_output : goal.decreases-transformed_output
decreases-transformed_output l = 100 * term_number l.term + 89

abbrev pub decreases-switching_output : goal.decreases-switching_output
decreases-switching_output l = 100 * term_number l.term + 89

abbrev pub decreases-continuing_output : goal.decreases-continuing_output
decreases-continuing_output l = 100 * term_number l.term + 89

abbrev pub decreases-sequence_output : goal.decreases-sequence_output
decreases-sequence_output l = 100 * term_number l.term + 88

abbrev pub decreases-parallel_output : goal.decreases-parallel_output
decreases-parallel_output l = 100 * term_number l.term + 88

abbrev pub decreases-fan_output : goal.decreases-fan_output
decreases-fan_output l = 100 * term_number l.term + 88

abbrev pub decreases-basic_output : goal.decreases-basic_output
decreases-basic_output l = 100 * term_number l.term + 88

abbrev pub decreases-recurring_output : goal.decreases-recurring_output
decreases-recurring_output l = 100 * term_number l.term + 88

-- what a body is typed by stands between the form and the body
abbrev pub decreases-body_output : goal.decreases-body_output
decreases-body_output l = 100 * term_number l.body.now.term + 93

abbrev pub decreases-output_within : goal.decreases-output_within
decreases-output_within l = 100 * term_number l.body + 92

abbrev pub decreases-body_within : goal.decreases-body_within
decreases-body_within l = 100 * term_number l.body.now.term + 94

abbrev pub decreases-kept_output : goal.decreases-kept_output
decreases-kept_output l = 100 * term_number l.body.now.term + 95

abbrev pub decreases-call_output : goal.decreases-call_output
decreases-call_output l = 100 * term_number l.term + 89

-- an argument stands between its call and its term
abbrev pub decreases-argument_fits : goal.decreases-argument_fits
decreases-argument_fits l = 100 * term_number l.term + 85

abbrev pub decreases-gathered_output : goal.decreases-gathered_output
decreases-gathered_output l = 100 * term_number l.term + 89

abbrev pub decreases-releasing_output : goal.decreases-releasing_output
decreases-releasing_output l = 100 * term_number l.term + 89

abbrev pub decreases-editing_output : goal.decreases-editing_output
decreases-editing_output l = 100 * term_number l.term + 89

abbrev pub decreases-released_output : goal.decreases-released_output
decreases-released_output l = 100 * term_number l.body.now.term + 95

-- a collection stands between the form that has it and its parts
abbrev pub decreases-edited_types : goal.decreases-edited_types
decreases-edited_types l = 100 * term_number l.term + 74

abbrev pub decreases-edit_within : goal.decreases-edit_within
decreases-edit_within l = 100 * term_number l.term + 73

abbrev pub decreases-edit_types : goal.decreases-edit_types
decreases-edit_types l = 100 * term_number l.term + 72

abbrev pub decreases-members_within : goal.decreases-members_within
decreases-members_within l = 100 * term_number l.form + 71

abbrev pub decreases-judge_members : goal.decreases-judge_members
decreases-judge_members l = 100 * term_number l.form + 70

abbrev pub decreases-members_of : goal.decreases-members_of
decreases-members_of l = 100 * term_number l.form + collection_depth (collection_of (program_in l.context.now) l.collection.now)

-- which arguments are left
abbrev pub invariant-call_output-loop-argument : goal.invariant-call_output-loop-argument
invariant-call_output-loop-argument l =
    let left = iter_rest (zip_first l.argument-iterator) in
    record {
      so : SoFar (program_in l.context) (term_spot_at (program_in l.context) l.term) (context_in l.context) (argument_nodes (program_in l.context) l.fn.arguments) (parameters_of l.template.parameters) left (parameters_of (iter_rest (zip_second l.argument-iterator))) l.fit;
      below : All (ArgumentBelow (program_in l.context) (term_number l.term)) left;
      held : All (HoldsArgument (program_in l.context)) left;
      shallow : arguments_depth (arguments_of (program_in l.context) left) ≤ 64;
    }
