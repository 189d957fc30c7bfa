use Rattle.std.proofs.Common.{◌≡◌, ◌≤◌, All, [], length, ◌∙◌, ap, inl, inr, subst, sym, refl, IfOk, IfErr, arith}
use Rattle.std.specs.Iterator.Adapters.{zip_first, zip_second}
use Rattle.std.specs.Slice.Iter.{iter_rest}
use Rattle.std.proofs.lemmas.List.Elements.{All-same, All-rest, All-head}
use Rattle.std.proofs.lemmas.List.{length-map}
use Rattle.std.proofs.lemmas.Slice.Zip.{Zip-more, either_empty_from_Zip}
use mathlib.Core.Path.{subst₂}
use Rattle.sf_value.specs.Values.{Kind, pair_kind, table_kind}
use Rattle.sf_value.specs.KindView.{key_kind_of}
use Rattle.sf_expr.specs.Arena.{expression}
use Rattle.sf_expr.specs.Typing.{HasType}
use Rattle.sf_term.specs.declared.node.Node.TheVariants as nodes
use Rattle.sf_term.specs.declared.program.Program.{Program}
use Rattle.sf_term.specs.ParameterView.{kind_of_form}
use Rattle.sf_term.specs.Parameters.{binding_of, parameters_of}
use Rattle.sf_term.specs.Trees.{arguments_depth, collection_depth}
use Rattle.sf_term.specs.Arena.{tree, term_number, program_expressions, argument_nodes, arguments_of, collection_node, collection_of, collection_tree, ArgumentBelow, CollectionBelow, HoldsTermParts, HoldsArgument, HoldsMembers, HoldsWhole}
use Rattle.sf_mean.specs.Contexts.{Context, names_of_values, inside_pattern}
use Rattle.sf_mean.specs.Typing.{Takes, Collects}
use Rattle.sf_expr.proofs.Bound.{on_err}
use Rattle.sf_differ.specs.Differences.{Explains, tells_nothing, lacks_room}
use Rattle.sf_differ.proofs.Told.{told_as, told_on, room_on, unsaid_on}
use Rattle.sf_operator.proofs.SameKinds.{payload_is}
use Rattle.sf_check.specs.Contexts.{program_in, context_in}
use Rattle.sf_check.specs.Breaking.{program_pattern, members_inside, ArgumentKeeps, value_keeps, process_keeps, collection_keeps, ArgumentsLeft, all_left, sequence_left, sequence_right, fan_left, fan_right, head_part, transformed_part, switch_source, switch_body, continuing_source, continuing_body, releasing_body, ReachesMembers, gathered_members, releasing_members, their_edit}
use Rattle.sf_check.specs.Differing.{StopsBody, StopsEdit, FormDiffers, TermDiffers, CollectionDiffers, ArgumentDiffersWithin, within_value, within_process, within_members, body_pattern, body_output, edit_pattern, edit_tables, both_inputs, side_inputs, head_within, fed_output, replaced_input, transform_within, transformed_input, source_output, event_beside, switch_body_differs, observer_output, continuing_body_differs, their_observer_output, released_body_differs, event_beside_members, members_edit_differs, added_members, added_key_within, member_within, added_key, member_output, dropped_members, dropped_key_within, dropped_key, kept_members, kept_within, kept_truth, choice_within, one_members, other_members, choice_truth, choice_tables}
use Rattle.sf_check.proofs.Terms.{switch_there, sided_there, headed_there, output_reached, left_reached, right_reached, first_reached, second_reached, loop_reached, first_term_reached, source_wants, input_wants, observer_reached}
use Rattle.sf_reach.proofs.Shallow.{arguments_shallow, members_shallow, released_shallow, edited_shallow, first_shallow, rest_shallow}
use Rattle.sf_check.proofs.Arguments.{rest_length, one_less}
use Rattle.sf_check.proofs.Members.{empty_collects, added_collects, dropped_collects, kept_collects, chosen_collects, their_observer_reached, their_observer_seen, editing_members_reached}
use Rattle.sf_check.proofs.Unlike.{found_same, argument_as, walk_first, walk_next, walk_end, collection_tells}
use Rattle.sf_check.proofs.Apart.{part_tells, members_tell, argument_tells, call_tells, form_tells, form_last, stops_last, stops_as, edit_last, exactly_as, fed_takes, watched_takes, table_made, among_outputs}
use Rattle.sf_check.proofs.differing.+explain.Goals as goal

-- ## A part

pub part-returns-in-Err-Memory-clause-err : goal.part-returns-in-Err-Memory-clause-err
part-returns-in-Err-Memory-clause-err t c = lacks_room

pub part-returns-in_ok-explain-in-Err-Broken-clause-err : goal.part-returns-in_ok-explain-in-Err-Broken-clause-err
part-returns-in_ok-explain-in-Err-Broken-clause-err t c = tells_nothing

pub part_within-returns-in_err-inner-clause-err : goal.part_within-returns-in_err-inner-clause-err
part_within-returns-in_err-inner-clause-err t c = room_on _ _ c.from_residual.ensures.1

pub part_within-returns-clause-ok : goal.part_within-returns-clause-ok
part_within-returns-clause-ok t c =
    let inner = c.in_ok-inner.ensures in
    subst₂ (λ (p : Program) (Γ : Context). IfOk c.part.result (λ b. Takes Γ (tree p c.args.body) c.args.input.now b)) inner.program inner.context c.part.ensures.ok

pub part_within-returns-clause-err : goal.part_within-returns-clause-err
part_within-returns-clause-err t c =
    let inner = c.in_ok-inner.ensures in
    subst₂ (λ (p : Program) (Γ : Context). IfErr c.part.result (λ e. Explains (TermDiffers p Γ c.args.body c.args.input.now) e)) inner.program inner.context c.part.ensures.err

-- ## Joined parts

pub explain_sequence-returns-in_err-middle : goal.explain_sequence-returns-in_err-middle
explain_sequence-returns-in_err-middle t c = told_on _ _ c.from_residual.ensures.1 (part_tells _ _ _ _ _ c.requires.there sequence_left c.in_err-middle.ensures.err)

pub explain_sequence-returns-in_err-part : goal.explain_sequence-returns-in_err-part
explain_sequence-returns-in_err-part t c = told_on _ _ c.from_residual-in_err-part.ensures.1 (part_tells _ _ _ _ _ c.requires.there (sequence_right c.in_ok-middle.ensures.ok) c.in_err-part.ensures.err)

pub explain_parallel-returns-in_err-suited : goal.explain_parallel-returns-in_err-suited
explain_parallel-returns-in_err-suited t c = told_on _ _ c.from_residual.ensures.1 (form_tells _ _ _ _ _ c.requires.there _ c.spot-spot.ensures (λ d k. both_inputs k) c.in_err-suited.ensures.err)

pub explain_parallel-returns-in_err-a : goal.explain_parallel-returns-in_err-a
explain_parallel-returns-in_err-a t c = unsaid_on _ _ _ c.from_residual-in_err-a.ensures.1

pub explain_parallel-returns-in_err-part : goal.explain_parallel-returns-in_err-part
explain_parallel-returns-in_err-part t c =
    told_on _ _ c.from_residual-in_err-part.ensures.1 (part_tells _ _ _ _ _ c.requires.there (left_reached c.args.context.now.program.now _ c.args.term _ _ c.spot-spot.ensures _ _ c.in_ok-a.ensures.ok _ _) c.in_err-part.ensures.err)

pub explain_parallel-returns-in_err-part-2 : goal.explain_parallel-returns-in_err-part-2
explain_parallel-returns-in_err-part-2 t c =
    told_on _ _ c.from_residual-in_err-part-2.ensures.1
    (part_tells _ _ _ _ _ c.requires.there (right_reached c.args.context.now.program.now _ c.args.term _ _ c.spot-spot.ensures _ _ c.in_ok-a.ensures.ok _ _ _ c.in_ok-part.ensures.ok) c.in_err-part-2.ensures.err)

pub explain_fan-returns-in_err-part : goal.explain_fan-returns-in_err-part
explain_fan-returns-in_err-part t c = told_on _ _ c.from_residual.ensures.1 (part_tells _ _ _ _ _ c.requires.there fan_left c.in_err-part.ensures.err)

pub explain_fan-returns-in_err-part-2 : goal.explain_fan-returns-in_err-part-2
explain_fan-returns-in_err-part-2 t c = told_on _ _ c.from_residual-in_err-part-2.ensures.1 (part_tells _ _ _ _ _ c.requires.there (fan_right c.in_ok-part.ensures.ok) c.in_err-part-2.ensures.err)

pub explain_sided-returns-in_err-suited : goal.explain_sided-returns-in_err-suited
explain_sided-returns-in_err-suited t c = told_on _ _ c.from_residual.ensures.1 (form_tells _ _ _ _ _ c.requires.there _ c.spot-spot.ensures (λ d k. side_inputs k) c.in_err-suited.ensures.err)

pub explain_sided-returns-in_err-a : goal.explain_sided-returns-in_err-a
explain_sided-returns-in_err-a t c = unsaid_on _ _ _ c.from_residual-in_err-a.ensures.1

pub explain_sided-returns-in_err-part-in-First : goal.explain_sided-returns-in_err-part-in-First
explain_sided-returns-in_err-part-in-First t c =
    told_on _ _ c.from_residual-in_err-part-in-First.ensures.1
    (part_tells _ _ _ _ _ (sided_there _ _ c.in-First.is c.requires.there) (first_reached c.args.context.now.program.now _ c.args.term _ _ c.spot-spot.ensures _ _ c.in_ok-a.ensures.ok _) c.in_err-part-in-First.ensures.err)

pub explain_sided-returns-in_err-part-in-Second : goal.explain_sided-returns-in_err-part-in-Second
explain_sided-returns-in_err-part-in-Second t c =
    told_on _ _ c.from_residual-in_err-part-in-Second.ensures.1
    (part_tells _ _ _ _ _ (sided_there _ _ c.in-Second.is c.requires.there) (second_reached c.args.context.now.program.now _ c.args.term _ _ c.spot-spot.ensures _ _ c.in_ok-a.ensures.ok _) c.in_err-part-in-Second.ensures.err)

-- ## A value at the head

pub explain_headed-returns-in_err-given : goal.explain_headed-returns-in_err-given
explain_headed-returns-in_err-given t c = told_on _ _ c.from_residual.ensures.1 (form_tells _ _ _ _ _ c.requires.there _ c.spot-spot.ensures (λ d k. head_within k) c.in_err-given.ensures.err)

pub explain_headed-returns-in_err-fed-in-LoopPre : goal.explain_headed-returns-in_err-fed-in-LoopPre
explain_headed-returns-in_err-fed-in-LoopPre t c = unsaid_on _ _ _ c.from_residual-in_err-fed-in-LoopPre.ensures.1

pub explain_headed-returns-in_err-output-in-LoopPre : goal.explain_headed-returns-in_err-output-in-LoopPre
explain_headed-returns-in_err-output-in-LoopPre t c =
    let there = headed_there _ _ c.in-LoopPre.is c.requires.there in
    let fed = fed_takes c.spot-spot.result c.in_ok-fed-in-LoopPre.ensures in
    told_on _ _ c.from_residual-in_err-output-in-LoopPre.ensures.1
    (part_tells _ _ _ _ _ there (loop_reached _ _ _ _ _ c.spot-spot.ensures _ _ there _ c.in_ok-given.ensures.ok _ fed.0 fed.1) c.in_err-output-in-LoopPre.ensures.err)

pub explain_headed-returns-in_ok-output-in-LoopPre : goal.explain_headed-returns-in_ok-output-in-LoopPre
explain_headed-returns-in_ok-output-in-LoopPre t c =
    let p = c.args.context.now.program.now in
    let Γ = context_in c.args.context.now in
    let output = c.in_ok-output-in-LoopPre in
    let part = subst (λ (w : Kind). Takes Γ (tree p c.args.inner) w output.output) (fed_takes c.spot-spot.result c.in_ok-fed-in-LoopPre.ensures).0 output.ensures.ok in
    form_last p Γ c.args.term _ c.args.input.now (headed_there _ _ c.in-LoopPre.is c.requires.there) _ c.spot-spot.ensures _ _ (λ d k. fed_output c.in_ok-given.ensures.ok part k) c.suited.ensures.err

pub explain_headed-returns-in_err-part-in-Replaced : goal.explain_headed-returns-in_err-part-in-Replaced
explain_headed-returns-in_err-part-in-Replaced t c =
    told_on _ _ c.from_residual-in_err-part-in-Replaced.ensures.1 (part_tells _ _ _ _ _ (headed_there _ _ c.in-Replaced.is c.requires.there) (head_part c.in_ok-given.ensures.ok c.requires.fits) c.in_err-part-in-Replaced.ensures.err)

pub explain_headed-returns-in_err-clone_in-in-Replaced : goal.explain_headed-returns-in_err-clone_in-in-Replaced
explain_headed-returns-in_err-clone_in-in-Replaced t c = room_on _ _ c.from_residual-in_err-clone_in-in-Replaced.ensures.1

pub explain_headed-returns-in_ok-clone_in-in-Replaced : goal.explain_headed-returns-in_ok-clone_in-in-Replaced
explain_headed-returns-in_ok-clone_in-in-Replaced t c =
    form_last c.args.context.now.program.now (context_in c.args.context.now) c.args.term _ c.args.input.now (headed_there _ _ c.in-Replaced.is c.requires.there) _ c.spot-spot.ensures _ _
    (λ d k. replaced_input c.in_ok-given.ensures.ok c.in_ok-part-in-Replaced.ensures.ok (exactly_as c.in_ok-clone_in-in-Replaced.ensures.same k)) c.suited-in-Replaced.ensures.err

pub explain_headed-returns-in_err-output-in-Initialized : goal.explain_headed-returns-in_err-output-in-Initialized
explain_headed-returns-in_err-output-in-Initialized t c =
    told_on _ _ c.from_residual-in_err-output-in-Initialized.ensures.1
    (part_tells _ _ _ _ _ c.requires.there (output_reached _ _ _ _ _ _ _ c.in_ok-given.ensures.ok c.in-Initialized.is c.requires.fits) c.in_err-output-in-Initialized.ensures.err)

pub explain_headed-returns-in_ok-output-in-Initialized : goal.explain_headed-returns-in_ok-output-in-Initialized
explain_headed-returns-in_ok-output-in-Initialized t c =
    form_last c.args.context.now.program.now (context_in c.args.context.now) c.args.term _ c.args.input.now c.requires.there _ c.spot-spot.ensures _ _
    (λ d k. among_outputs c.in-Initialized.is c.in_ok-given.ensures.ok c.in_ok-output-in-Initialized.ensures.ok k) c.suited-in-Initialized.ensures.err

-- ## A function at the head

pub explain_transformed-returns-in_err-made : goal.explain_transformed-returns-in_err-made
explain_transformed-returns-in_err-made t c = told_on _ _ c.from_residual.ensures.1 (form_tells _ _ _ _ _ c.requires.there _ c.spot-spot.ensures (λ d k. transform_within k) c.in_err-made.ensures.err)

pub explain_transformed-returns-in_err-part : goal.explain_transformed-returns-in_err-part
explain_transformed-returns-in_err-part t c = told_on _ _ c.from_residual-in_err-part.ensures.1 (part_tells _ _ _ _ _ c.requires.there (transformed_part c.in_ok-made.ensures.ok) c.in_err-part.ensures.err)

pub explain_transformed-returns-in_err-clone_in : goal.explain_transformed-returns-in_err-clone_in
explain_transformed-returns-in_err-clone_in t c = room_on _ _ c.from_residual-in_err-clone_in.ensures.1

pub explain_transformed-returns : goal.explain_transformed-returns
explain_transformed-returns t c =
    form_last c.args.context.now.program.now (context_in c.args.context.now) c.args.term _ c.args.input.now c.requires.there _ c.spot-spot.ensures _ _
    (λ d k. transformed_input c.in_ok-made.ensures.ok c.in_ok-part.ensures.ok (exactly_as c.in_ok-clone_in.ensures.same k)) c.suited.ensures.err

-- ## Switches

pub explain-explain_basic-requires : goal.explain-explain_basic-requires
explain-explain_basic-requires t c = (omega arith, (c.requires.fits, (switch_there _ _ c.in-Switching.form c.in-Basic.is (sym c.node.ensures.value ∙ c.in-Switching.is), (rw c.in-Switching.is at c.node.ensures.below, (c.requires.term_held, rw c.in-Switching.is at c.node.ensures.held)))))

pub explain-explain_recurring-requires : goal.explain-explain_recurring-requires
explain-explain_recurring-requires t c = (omega arith, (c.requires.fits, (switch_there _ _ c.in-Switching.form c.in-Recurring.is (sym c.node.ensures.value ∙ c.in-Switching.is), (rw c.in-Switching.is at c.node.ensures.below, (c.requires.term_held, rw c.in-Switching.is at c.node.ensures.held)))))

pub explain_basic-returns-in_err-output : goal.explain_basic-returns-in_err-output
explain_basic-returns-in_err-output t c = told_on _ _ c.from_residual.ensures.1 (part_tells _ _ _ _ _ c.requires.there switch_source c.in_err-output.ensures.err)

pub explain_basic-returns-in_err-suited : goal.explain_basic-returns-in_err-suited
explain_basic-returns-in_err-suited t c =
    told_on _ _ c.from_residual-in_err-suited.ensures.1 (form_tells _ _ _ _ _ c.requires.there _ c.spot-spot.ensures (λ d k. source_output c.in_ok-output.ensures.ok k) c.in_err-suited.ensures.err)

pub explain_basic-returns-in_err-value : goal.explain_basic-returns-in_err-value
explain_basic-returns-in_err-value t c = unsaid_on _ _ _ c.from_residual-in_err-value.ensures.1

pub explain_basic-returns : goal.explain_basic-returns
explain_basic-returns t c =
    let p = c.args.context.now.program.now in
    let wanted = source_wants p _ c.args.term _ _ c.spot-spot.ensures c.args.shown _ c.args.form.pattern c.args.form.body _ c.in_ok-output.ensures.ok _ _ c.in_ok-value.ensures.ok in
    stops_last p (context_in c.args.context.now) c.args.term _ c.args.input.now c.requires.there _ c.spot-spot.ensures _ _ _ _ _ _ _ (λ d k. switch_body_differs wanted k) (λ binds. switch_body wanted binds) c.explain_body.ensures

pub explain_recurring-returns-in_err-suited : goal.explain_recurring-returns-in_err-suited
explain_recurring-returns-in_err-suited t c = told_on _ _ c.from_residual.ensures.1 (form_tells _ _ _ _ _ c.requires.there _ c.spot-spot.ensures (λ d k. event_beside k) c.in_err-suited.ensures.err)

pub explain_recurring-returns-in_err-value : goal.explain_recurring-returns-in_err-value
explain_recurring-returns-in_err-value t c = unsaid_on _ _ _ c.from_residual-in_err-value.ensures.1

pub explain_recurring-returns-in_err-output : goal.explain_recurring-returns-in_err-output
explain_recurring-returns-in_err-output t c =
    told_on _ _ c.from_residual-in_err-output.ensures.1
    (part_tells _ _ _ _ _ c.requires.there (first_term_reached c.args.context.now.program.now _ c.args.term _ _ c.spot-spot.ensures _ _ _ _ _ _ c.in_ok-value.ensures.ok) c.in_err-output.ensures.err)

pub explain_recurring-returns : goal.explain_recurring-returns
explain_recurring-returns t c =
    let p = c.args.context.now.program.now in
    let wanted = input_wants p _ c.args.term _ _ c.spot-spot.ensures c.args.shown _ c.args.form.pattern c.args.form.body _ _ c.in_ok-value.ensures.ok _ c.in_ok-output.ensures.ok in
    stops_last p (context_in c.args.context.now) c.args.term _ c.args.input.now c.requires.there _ c.spot-spot.ensures _ _ _ _ _ _ _ (λ d k. switch_body_differs wanted k) (λ binds. switch_body wanted binds) c.explain_body.ensures

pub explain_continuing-returns-in_err-value : goal.explain_continuing-returns-in_err-value
explain_continuing-returns-in_err-value t c = told_on _ _ c.from_residual.ensures.1 (part_tells _ _ _ _ _ c.requires.there continuing_source c.in_err-value.ensures.err)

pub explain_continuing-returns-in_err-watched : goal.explain_continuing-returns-in_err-watched
explain_continuing-returns-in_err-watched t c = unsaid_on _ _ _ c.from_residual-in_err-watched.ensures.1

pub explain_continuing-returns-in_err-seen : goal.explain_continuing-returns-in_err-seen
explain_continuing-returns-in_err-seen t c =
    told_on _ _ c.from_residual-in_err-seen.ensures.1
    (part_tells _ _ _ _ _ c.requires.there (observer_reached c.args.context.now.program.now _ c.args.term _ _ c.spot-spot.ensures _ _ _ _ _ _ _ c.requires.there _ c.in_ok-value.ensures.ok _ c.in_ok-watched.ensures) c.in_err-seen.ensures.err)

pub explain_continuing-returns-in_err-suited : goal.explain_continuing-returns-in_err-suited
explain_continuing-returns-in_err-suited t c =
    let seen = watched_takes c.args.context.now.program.now c.args.form.observer c.spot-spot.result c.in_ok-watched.ensures c.in_ok-seen.ensures.ok in
    told_on _ _ c.from_residual-in_err-suited.ensures.1 (form_tells _ _ _ _ _ c.requires.there _ c.spot-spot.ensures (λ d k. observer_output c.in_ok-value.ensures.ok seen k) c.in_err-suited.ensures.err)

pub explain_continuing-returns-in_err-event : goal.explain_continuing-returns-in_err-event
explain_continuing-returns-in_err-event t c = unsaid_on _ _ _ c.from_residual-in_err-event.ensures.1

pub explain_continuing-returns : goal.explain_continuing-returns
explain_continuing-returns t c =
    let p = c.args.context.now.program.now in
    let Γ = context_in c.args.context.now in
    let seen = watched_takes c.args.context.now.program.now c.args.form.observer c.spot-spot.result c.in_ok-watched.ensures c.in_ok-seen.ensures.ok in
    let event = subst (λ (e : Kind). Takes Γ (tree p c.args.form.observer) (pair_kind c.args.input.now c.in_ok-value.value) e) (payload_is c.in_ok-seen.seen c.in_ok-event.ensures.ok) seen in
    stops_last p Γ c.args.term _ c.args.input.now c.requires.there _ c.spot-spot.ensures _ _ _ _ _ _ _ (λ d k. continuing_body_differs c.in_ok-value.ensures.ok event k) (λ binds. continuing_body c.in_ok-value.ensures.ok event binds) c.explain_kept.ensures

-- ## Calls

pub explain_argument-returns-in_err-constant-in-Value-default-clause-err : goal.explain_argument-returns-in_err-constant-in-Value-default-clause-err
explain_argument-returns-in_err-constant-in-Value-default-clause-err t c =
    told_on _ _ c.from_residual.ensures.1 (argument_as (λ v k. Explains (ArgumentDiffersWithin (program_in c.args.context.now) (context_in c.args.context.now) v k) c.in_err-constant-in-Value-default.field-0.0) c.in-Value-default.is-0 refl (told_as (λ d k. within_value k) c.in_err-constant-in-Value-default.ensures.err))

pub explain_argument-returns-in_ok-constant-in-Value-default-clause-ok : goal.explain_argument-returns-in_ok-constant-in-Value-default-clause-ok
explain_argument-returns-in_ok-constant-in-Value-default-clause-ok t c =
    argument_as (ArgumentKeeps (program_in c.args.context.now) (context_in c.args.context.now)) c.in-Value-default.is-0 refl (value_keeps c.in_ok-constant-in-Value-default.ensures.ok)

pub explain_argument-returns-in_err-part-in-Process-Process-clause-err : goal.explain_argument-returns-in_err-part-in-Process-Process-clause-err
explain_argument-returns-in_err-part-in-Process-Process-clause-err t c =
    told_on _ _ c.from_residual-in_err-part-in-Process-Process.ensures.1
    (argument_as (λ v k. Explains (ArgumentDiffersWithin (program_in c.args.context.now) (context_in c.args.context.now) v k) c.in_err-part-in-Process-Process.field-0.0) c.in-Process-Process.is-0 (ap kind_of_form c.in-Process-Process.is-1) (told_as (λ d k. within_process k) c.in_err-part-in-Process-Process.ensures.err))

pub explain_argument-returns-in_ok-part-in-Process-Process-clause-ok : goal.explain_argument-returns-in_ok-part-in-Process-Process-clause-ok
explain_argument-returns-in_ok-part-in-Process-Process-clause-ok t c =
    argument_as (ArgumentKeeps (program_in c.args.context.now) (context_in c.args.context.now)) c.in-Process-Process.is-0 (ap kind_of_form c.in-Process-Process.is-1) (process_keeps c.in_ok-part-in-Process-Process.ensures.ok)

pub explain_argument-members_at_part-requires : goal.explain_argument-members_at_part-requires
explain_argument-members_at_part-requires t c =
    let is = c.in-Collection-Collection.is-0 in
    (omega arith, (omega (arith, c.nodes-in-Collection-Collection.ensures.count, c.nodes-in-Collection-Collection.ensures.small), (subst (ArgumentBelow (program_in c.args.context.now) (term_number c.args.term)) is c.requires.below, (c.requires.shallow _ is, subst (HoldsArgument (program_in c.args.context.now)) is c.requires.argument_held))))

pub explain_argument-returns-in_err-members_at_part-in-Collection-Collection-clause-err : goal.explain_argument-returns-in_err-members_at_part-in-Collection-Collection-clause-err
explain_argument-returns-in_err-members_at_part-in-Collection-Collection-clause-err t c =
    told_on _ _ c.from_residual-in_err-members_at_part-in-Collection-Collection.ensures.1
    (argument_as (λ v k. Explains (ArgumentDiffersWithin (program_in c.args.context.now) (context_in c.args.context.now) v k) c.in_err-members_at_part-in-Collection-Collection.field-0.0) c.in-Collection-Collection.is-0 (ap kind_of_form c.in-Collection-Collection.is-1) (told_as (λ d k. within_members k) c.in_err-members_at_part-in-Collection-Collection.ensures.err))

pub explain_argument-returns-in_ok-members_at_part-in-Collection-Collection-clause-ok : goal.explain_argument-returns-in_ok-members_at_part-in-Collection-Collection-clause-ok
explain_argument-returns-in_ok-members_at_part-in-Collection-Collection-clause-ok t c =
    argument_as (ArgumentKeeps (program_in c.args.context.now) (context_in c.args.context.now)) c.in-Collection-Collection.is-0 (ap kind_of_form c.in-Collection-Collection.is-1) (collection_keeps c.in_ok-members_at_part-in-Collection-Collection.ensures.ok)

pub explain_argument-returns-in-Process-Value-clause-err : goal.explain_argument-returns-in-Process-Value-clause-err
explain_argument-returns-in-Process-Value-clause-err t c = tells_nothing

pub explain_argument-returns-in-Process-Collection-clause-err : goal.explain_argument-returns-in-Process-Collection-clause-err
explain_argument-returns-in-Process-Collection-clause-err t c = tells_nothing

pub explain_argument-returns-in-Collection-Value-clause-err : goal.explain_argument-returns-in-Collection-Value-clause-err
explain_argument-returns-in-Collection-Value-clause-err t c = tells_nothing

pub explain_argument-returns-in-Collection-Process-clause-err : goal.explain_argument-returns-in-Collection-Process-clause-err
explain_argument-returns-in-Collection-Process-clause-err t c = tells_nothing

pub explain_call-loop-argument-init : goal.explain_call-loop-argument-init
explain_call-loop-argument-init t c =
    let p = program_in c.args.context.now in
    let gives = c.into_iter-argument-iterator.ensures.into_iter_gives in
    let first : iter_rest (zip_first c.into_iter-argument-iterator.result) ≡ argument_nodes p c.args.arguments =
    ap (λ z. iter_rest (zip_first z)) gives ∙ ap iter_rest c.zip-argument-items.ensures.first ∙ c.iter.ensures.rest ∙ c.arguments-arguments.ensures in
    let given : iter_rest (zip_second c.zip-argument-items.result) ≡ c.parameters-parameters.result.now = c.zip-argument-items.ensures.second.0 in
    let second : iter_rest (zip_second c.into_iter-argument-iterator.result) ≡ c.in-Some.template.now.parameters =
    ap (λ z. iter_rest (zip_second z)) gives ∙ given ∙ c.parameters-parameters.ensures in
    let count = ap length (sym c.arguments-arguments.ensures) ∙ c.if-arguments-parameters.false ∙ ap length c.parameters-parameters.ensures ∙ sym (length-map c.in-Some.template.now.parameters binding_of) in
    record {
      so = walk_first (ArgumentsLeft p (context_in c.args.context.now) (argument_nodes p c.args.arguments) (parameters_of c.in-Some.template.now.parameters)) first second (all_left count);
      below = All-same (ArgumentBelow p (term_number c.args.term)) _ _ first c.requires.below;
      held = All-same (HoldsArgument p) _ _ first c.requires.arguments_held.1;
      shallow = subst (λ vs. arguments_depth (arguments_of p vs) ≤ 64) (sym first) (arguments_shallow p c.args.term _ _ (sym c.requires.there));
    }

pub explain_call-explain_argument-requires : goal.explain_call-explain_argument-requires
explain_call-explain_argument-requires t c =
    let p = program_in c.args.context.now in
    let step = Zip-more c.loop-argument.argument-iterator c.next.new.self _ _ c.in-Some-2.is c.next.ensures.steps in
    (omega arith, (All-head (ArgumentBelow p (term_number c.args.term)) _ _ (subst (All (ArgumentBelow p (term_number c.args.term))) step.0 c.loop-argument.invariant.below), ((λ i is. first_shallow p _ _ i is (subst (λ vs. arguments_depth (arguments_of p vs) ≤ 64) step.0 c.loop-argument.invariant.shallow)), All-head (HoldsArgument p) _ _ (subst (All (HoldsArgument p)) step.0 c.loop-argument.invariant.held))))

pub explain_call-loop-argument-preserved : goal.explain_call-loop-argument-preserved
explain_call-loop-argument-preserved t c =
    let p = program_in c.args.context.now in
    let Γ = context_in c.args.context.now in
    let step = Zip-more c.loop-argument.argument-iterator c.next.new.self _ _ c.in-Some-2.is c.next.ensures.steps in
    let whole = ArgumentsLeft p Γ (argument_nodes p c.args.arguments) (parameters_of c.in-Some.template.now.parameters) in
    record {
      so = one_less (walk_next whole step.0 step.1 c.loop-argument.invariant.so) (subst (ArgumentKeeps p Γ c.in-Some-2.argument.now) c.form.ensures c.in_ok-explain_argument.ensures.ok);
      below = All-rest (ArgumentBelow p (term_number c.args.term)) _ _ _ step.0 c.loop-argument.invariant.below;
      held = All-rest (HoldsArgument p) _ _ _ step.0 c.loop-argument.invariant.held;
      shallow = rest_shallow p _ _ (subst (λ vs. arguments_depth (arguments_of p vs) ≤ 64) step.0 c.loop-argument.invariant.shallow);
    }

pub explain_call-returns-in_err-explain_argument : goal.explain_call-returns-in_err-explain_argument
explain_call-returns-in_err-explain_argument t c =
    let p = program_in c.args.context.now in
    let Γ = context_in c.args.context.now in
    let step = Zip-more c.loop-argument.argument-iterator c.next.new.self _ _ c.in-Some-2.is c.next.ensures.steps in
    let whole = ArgumentsLeft p Γ (argument_nodes p c.args.arguments) (parameters_of c.in-Some.template.now.parameters) in
    told_on _ _ c.from_residual.ensures.1
    (argument_tells p Γ c.args.term _ _ _ c.requires.there _ c.in-Some.ensures.found (walk_next whole step.0 step.1 c.loop-argument.invariant.so) (subst (λ k. Explains (ArgumentDiffersWithin p Γ c.in-Some-2.argument.now k) c.in_err-explain_argument.field-0.0) c.form.ensures c.in_err-explain_argument.ensures.err))

pub explain_call-explain_fit-requires : goal.explain_call-explain_fit-requires
explain_call-explain_fit-requires t c =
    let p = program_in c.args.context.now in
    let Γ = context_in c.args.context.now in
    let is = sym c.arguments-arguments.ensures in
    let whole = ArgumentsLeft p Γ (argument_nodes p c.args.arguments) (parameters_of c.in-Some.template.now.parameters) in
    let typed = walk_end whole (rest_length c.loop-argument.invariant.so) c.loop-argument.invariant.so (either_empty_from_Zip c.loop-argument.argument-iterator c.next.new.self _ c.in-None.is c.next.ensures.steps) in
    record {
      typed = subst (λ vs. ArgumentsLeft p Γ vs (parameters_of c.in-Some.template.now.parameters) [] []) is typed;
      below = subst (All (ArgumentBelow p (term_number c.args.term))) is c.requires.below;
      arguments_held = subst (All (HoldsArgument p)) is c.requires.arguments_held.1;
      term_held = c.requires.term_held;
      shallow = subst (λ vs. arguments_depth (arguments_of p vs) ≤ 64) is (arguments_shallow p c.args.term _ _ (sym c.requires.there));
    }

pub explain_call-returns : goal.explain_call-returns
explain_call-returns t c =
    call_tells (program_in c.args.context.now) (context_in c.args.context.now) c.args.term c.args.input.now _ _ c.requires.there _ c.in-Some.ensures.found _ _ c.arguments-arguments.ensures c.explain_fit.ensures

-- ## Members

pub explain_gathered-members_at_part-requires : goal.explain_gathered-members_at_part-requires
explain_gathered-members_at_part-requires t c = (omega arith, (c.requires.fits, (c.requires.below, (members_shallow (program_in c.args.context.now) c.args.term c.args.members (sym c.requires.there), c.requires.members_held))))

pub explain_gathered-returns-in_err-members_at_part : goal.explain_gathered-returns-in_err-members_at_part
explain_gathered-returns-in_err-members_at_part t c = told_on _ _ c.from_residual.ensures.1 (members_tell _ _ _ _ _ c.requires.there gathered_members c.in_err-members_at_part.ensures.err)

pub explain_releasing-members_at_part-requires : goal.explain_releasing-members_at_part-requires
explain_releasing-members_at_part-requires t c = (omega arith, (c.requires.fits, (c.requires.below.0, (released_shallow (program_in c.args.context.now) c.args.term c.args.form (sym c.requires.there), c.requires.form_held.0))))

pub explain_releasing-returns-in_err-types : goal.explain_releasing-returns-in_err-types
explain_releasing-returns-in_err-types t c = told_on _ _ c.from_residual.ensures.1 (members_tell _ _ _ _ _ c.requires.there releasing_members c.in_err-types.ensures.err)

pub explain_releasing-returns-in_err-table : goal.explain_releasing-returns-in_err-table
explain_releasing-returns-in_err-table t c = unsaid_on _ _ _ c.from_residual-in_err-table.ensures.1

pub explain_releasing-returns-in_err-watched : goal.explain_releasing-returns-in_err-watched
explain_releasing-returns-in_err-watched t c = unsaid_on _ _ _ c.from_residual-in_err-watched.ensures.1

pub explain_releasing-returns-in_err-seen : goal.explain_releasing-returns-in_err-seen
explain_releasing-returns-in_err-seen t c =
    told_on _ _ c.from_residual-in_err-seen.ensures.1
    (part_tells _ _ _ _ _ c.requires.there (their_observer_reached (program_in c.args.context.now) _ c.args.term _ _ c.spot-spot.ensures _ c.requires.there _ _ c.in_ok-types.ensures.ok _ c.in_ok-table.ensures _ c.in_ok-watched.ensures) c.in_err-seen.ensures.err)

pub explain_releasing-returns-in_err-suited : goal.explain_releasing-returns-in_err-suited
explain_releasing-returns-in_err-suited t c =
    let seen = their_observer_seen (program_in c.args.context.now) _ c.args.term _ _ c.spot-spot.ensures _ c.requires.there _ _ c.in_ok-types.ensures.ok _ c.in_ok-table.ensures _ c.in_ok-watched.ensures _ c.in_ok-seen.ensures.ok in
    told_on _ _ c.from_residual-in_err-suited.ensures.1 (form_tells _ _ _ _ _ c.requires.there _ c.spot-spot.ensures (λ d k. their_observer_output c.in_ok-types.ensures.ok seen k) c.in_err-suited.ensures.err)

pub explain_releasing-returns-in_err-event : goal.explain_releasing-returns-in_err-event
explain_releasing-returns-in_err-event t c = unsaid_on _ _ _ c.from_residual-in_err-event.ensures.1

pub explain_releasing-returns : goal.explain_releasing-returns
explain_releasing-returns t c =
    let p = program_in c.args.context.now in
    let Γ = context_in c.args.context.now in
    let types = c.in_ok-types.types in
    let seen = their_observer_seen p _ c.args.term _ _ c.spot-spot.ensures _ c.requires.there _ _ c.in_ok-types.ensures.ok _ c.in_ok-table.ensures _ c.in_ok-watched.ensures _ c.in_ok-seen.ensures.ok in
    let event = subst (λ (e : Kind). Takes Γ (tree p c.args.form.observer) (pair_kind c.args.input.now (table_kind (key_kind_of types.keys) types.output)) e) (payload_is c.in_ok-seen.seen c.in_ok-event.ensures.ok) seen in
    stops_as p Γ c.args.term _ c.args.input.now c.requires.there _ c.spot-spot.ensures _ _ _ _ _ _ _ _ (table_made c.spot-spot.result c.in_ok-table.ensures)
    (λ d k. released_body_differs c.in_ok-types.ensures.ok event k) (λ binds. releasing_body c.in_ok-types.ensures.ok event binds) c.explain_released.ensures

pub explain_released-returns-in_err-names : goal.explain_released-returns-in_err-names
explain_released-returns-in_err-names t c = room_on _ _ c.from_residual.ensures.1

pub explain_released-returns : goal.explain_released-returns
explain_released-returns t c =
    subst (λ (Γ : Context). IfErr c.explain_inside.result (λ e. Explains (StopsBody (program_in c.args.context.now) Γ c.args.body.now) e)) c.in_ok-names.ensures c.explain_inside.ensures

-- ## Edits

pub explain_editing-members_at_part-requires : goal.explain_editing-members_at_part-requires
explain_editing-members_at_part-requires t c = (omega arith, (c.in_ok-value.ensures.fits, (c.requires.below.0, ((edited_shallow (program_in c.args.context.now) c.args.term c.args.form (sym c.requires.there)).0, c.requires.form_held.0))))

pub explain_editing-explain_edited-requires : goal.explain_editing-explain_edited-requires
explain_editing-explain_edited-requires t c = (omega arith, (c.in_ok-value.ensures.fits, (c.requires.below.1, ((edited_shallow (program_in c.args.context.now) c.args.term c.args.form (sym c.requires.there)).1, c.requires.form_held))))

pub explain_editing-returns-in_err-suited : goal.explain_editing-returns-in_err-suited
explain_editing-returns-in_err-suited t c = told_on _ _ c.from_residual.ensures.1 (form_tells _ _ _ _ _ c.requires.there _ c.spot-spot.ensures (λ d k. event_beside_members k) c.in_err-suited.ensures.err)

pub explain_editing-returns-in_err-value : goal.explain_editing-returns-in_err-value
explain_editing-returns-in_err-value t c = unsaid_on _ _ _ c.from_residual-in_err-value.ensures.1

pub explain_editing-returns-in_err-types : goal.explain_editing-returns-in_err-types
explain_editing-returns-in_err-types t c =
    told_on _ _ c.from_residual-in_err-types.ensures.1
    (members_tell _ _ _ _ _ c.requires.there (editing_members_reached (program_in c.args.context.now) _ c.args.term _ _ c.spot-spot.ensures _ c.requires.there _ _ c.in_ok-value.ensures.ok) c.in_err-types.ensures.err)

pub explain_editing-returns : goal.explain_editing-returns
explain_editing-returns t c =
    let p = program_in c.args.context.now in
    let Γ = context_in c.args.context.now in
    let form = c.args.form in
    let k = key_kind_of c.in_ok-types.types.keys in
    let beside = sym c.in_ok-value.ensures.ok in
    let Θ = inside_pattern (program_pattern p form.pattern) c.in_ok-value.payload.now (members_inside p form.name k c.in_ok-value.value.now c.in_ok-types.types.output Γ) in
    edit_last p Γ c.args.term _ c.args.input.now c.requires.there _ c.spot-spot.ensures _ _ _ _ _ _ _ _
    (λ d l. subst (λ a. FormDiffers p Γ c.spot-spot.result (nodes.Editing form) a d) beside (members_edit_differs c.in_ok-types.ensures.ok l))
    (λ binds. subst (λ a. ReachesMembers p Γ (nodes.Editing form) a Θ form.edit c.in_ok-value.value.now) beside (their_edit c.in_ok-types.ensures.ok binds)) c.explain_edited.ensures

pub explain_edited-returns-in_err-names : goal.explain_edited-returns-in_err-names
explain_edited-returns-in_err-names t c = room_on _ _ c.from_residual.ensures.1

pub explain_edited-returns : goal.explain_edited-returns
explain_edited-returns t c =
    subst (λ (Γ : Context). IfErr c.explain_edit_inside.result (λ e. Explains (StopsEdit (program_in c.args.context.now) Γ c.args.edit.now) e)) c.in_ok-names.ensures c.explain_edit_inside.ensures

pub explain_edit_inside-explain_edit-requires : goal.explain_edit_inside-explain_edit-requires
explain_edit_inside-explain_edit-requires t c =
    let same = sym c.in_ok-inner.ensures.program in
    (omega arith, (c.requires.fits, (subst (λ p. CollectionBelow (term_number c.args.term) (collection_node p c.args.edit.now.form.edit)) same c.requires.below, (subst (λ p. collection_depth (collection_of p (collection_node p c.args.edit.now.form.edit)) ≤ 64) same c.requires.shallow, subst (λ p. HoldsTermParts p (nodes.Editing c.args.edit.now.form)) same c.requires.edit_held))))

pub explain_edit_inside-returns-in_err-inner : goal.explain_edit_inside-returns-in_err-inner
explain_edit_inside-returns-in_err-inner t c = room_on _ _ c.from_residual.ensures.1

pub explain_edit_inside-returns : goal.explain_edit_inside-returns
explain_edit_inside-returns t c =
    let inner = c.in_ok-inner.ensures in
    subst₂ (λ (p : Program) (Γ : Context). IfErr c.explain_edit.result (λ e. Explains (StopsEdit p Γ c.args.edit.now) e)) inner.program inner.context c.explain_edit.ensures

pub explain_edit-returns-in_err-names : goal.explain_edit-returns-in_err-names
explain_edit-returns-in_err-names t c = told_on _ _ c.from_residual.ensures.1 (told_as (λ d k. inl (edit_pattern k)) c.in_err-names.ensures.err)

pub explain_edit-returns-in_err-given : goal.explain_edit-returns-in_err-given
explain_edit-returns-in_err-given t c =
    let p = program_in c.args.context.now in
    let names = c.in_ok-names.ensures in
    told_on _ _ c.from_residual-in_err-given.ensures.1
    (told_as (λ d k. inr (names.bound, subst (λ (Γ : Context). CollectionDiffers p Γ (collection_node p c.args.edit.now.form.edit) c.args.edit.now.input.now d) names.inside k)) c.in_err-given.ensures.err)

pub explain_edit-returns : goal.explain_edit-returns
explain_edit-returns t c =
    let p = program_in c.args.context.now in
    let names = c.in_ok-names.ensures in
    let given = subst (λ (Γ : Context). Collects Γ (collection_tree p c.args.edit.now.form.edit) (key_kind_of c.in_ok-given.given.keys) c.args.edit.now.input.now c.in_ok-given.given.output) names.inside c.in_ok-given.ensures.ok in
    on_err c.suits_members.result (λ b h. told_as (λ d k. inl (edit_tables names.bound given k)) h) c.suits_members.ensures.err

-- ## Collections

pub members_part_within-members_at_part-requires : goal.members_part_within-members_at_part-requires
members_part_within-members_at_part-requires t c =
    let same = sym c.in_ok-inner.ensures.program in
    (omega arith, (c.requires.fits, (subst (λ p. CollectionBelow (term_number c.args.form) (collection_node p c.args.members)) same c.requires.below, (subst (λ p. collection_depth (collection_of p (collection_node p c.args.members)) ≤ 64) same c.requires.shallow, subst (λ p. HoldsWhole p c.args.members) same c.requires.members_held))))

pub members_part_within-returns-in_err-inner-clause-err : goal.members_part_within-returns-in_err-inner-clause-err
members_part_within-returns-in_err-inner-clause-err t c = room_on _ _ c.from_residual.ensures.1

pub members_part_within-returns-clause-ok : goal.members_part_within-returns-clause-ok
members_part_within-returns-clause-ok t c =
    let inner = c.in_ok-inner.ensures in
    subst₂ (λ (p : Program) (Γ : Context). IfOk c.members_at_part.result (λ m. Collects Γ (collection_tree p c.args.members) (key_kind_of m.keys) c.args.input.now m.output)) inner.program inner.context c.members_at_part.ensures.ok

pub members_part_within-returns-clause-err : goal.members_part_within-returns-clause-err
members_part_within-returns-clause-err t c =
    let inner = c.in_ok-inner.ensures in
    subst₂ (λ (p : Program) (Γ : Context). IfErr c.members_at_part.result (λ e. Explains (CollectionDiffers p Γ (collection_node p c.args.members) c.args.input.now) e)) inner.program inner.context c.members_at_part.ensures.err

pub members_at_part-members_part-requires : goal.members_at_part-members_part-requires
members_at_part-members_part-requires t c =
    let there = c.collection.ensures in
    let shallow = subst (λ i. collection_depth (collection_of (program_in c.args.context.now) i) ≤ 64) (sym there) c.requires.shallow in
    (omega (arith, shallow), (c.requires.fits, (subst (CollectionBelow (term_number c.args.form)) (sym there) c.requires.below, (shallow, subst (HoldsMembers (program_in c.args.context.now)) (sym there) c.requires.members_held.1))))

pub members_at_part-returns-clause-ok : goal.members_at_part-returns-clause-ok
members_at_part-returns-clause-ok t c =
    let p = program_in c.args.context.now in
    subst (λ i. IfOk c.members_part.result (λ m. Collects (context_in c.args.context.now) (collection_of p i) (key_kind_of m.keys) c.args.input.now m.output)) c.collection.ensures c.members_part.ensures.ok

pub members_at_part-returns-clause-err : goal.members_at_part-returns-clause-err
members_at_part-returns-clause-err t c =
    let p = program_in c.args.context.now in
    subst (λ i. IfErr c.members_part.result (λ e. Explains (CollectionDiffers p (context_in c.args.context.now) i c.args.input.now) e)) c.collection.ensures c.members_part.ensures.err

pub members_part-returns-in_err-new-in-Empty-clause-err : goal.members_part-returns-in_err-new-in-Empty-clause-err
members_part-returns-in_err-new-in-Empty-clause-err t c =
    room_on _ _ c.from_residual.ensures.1

pub members_part-returns-in_ok-new-in-Empty-clause-ok : goal.members_part-returns-in_ok-new-in-Empty-clause-ok
members_part-returns-in_ok-new-in-Empty-clause-ok t c =
    let types = c.in_ok-new-in-Empty.ensures in
    rw c.in-Empty.is (empty_collects (program_in c.args.context.now) (context_in c.args.context.now) c.args.input.now _ _ _ _ types.keys types.output)

pub members_part-returns-in-Used-clause-ok : goal.members_part-returns-in-Used-clause-ok
members_part-returns-in-Used-clause-ok t c =
    rw c.in-Used.is c.used_part.ensures.ok

pub members_part-returns-in-Used-clause-err : goal.members_part-returns-in-Used-clause-err
members_part-returns-in-Used-clause-err t c =
    rw c.in-Used.is c.used_part.ensures.err

pub members_part-members_part-requires : goal.members_part-members_part-requires
members_part-members_part-requires t c =
    let same = ap (λ i. collection_depth (collection_of (program_in c.args.context.now) i)) c.deref.ensures in
    let whole = ap (λ i. collection_depth (collection_of (program_in c.args.context.now) i)) c.in-Added.is in
    (omega (arith, same, whole), (c.requires.fits, (rw c.deref.ensures ((rw c.in-Added.is at c.requires.below).0), (omega (arith, same, whole, c.requires.shallow), rw c.deref.ensures ((rw c.in-Added.is at c.requires.collection_held).0)))))

pub members_part-members_part-requires-in-Dropped : goal.members_part-members_part-requires-in-Dropped
members_part-members_part-requires-in-Dropped t c =
    let same = ap (λ i. collection_depth (collection_of (program_in c.args.context.now) i)) c.deref-in-Dropped.ensures in
    let whole = ap (λ i. collection_depth (collection_of (program_in c.args.context.now) i)) c.in-Dropped.is in
    (omega (arith, same, whole), (c.requires.fits, (rw c.deref-in-Dropped.ensures ((rw c.in-Dropped.is at c.requires.below)), (omega (arith, same, whole, c.requires.shallow), rw c.deref-in-Dropped.ensures ((rw c.in-Dropped.is at c.requires.collection_held).0)))))

pub members_part-members_part-requires-in-Kept : goal.members_part-members_part-requires-in-Kept
members_part-members_part-requires-in-Kept t c =
    let same = ap (λ i. collection_depth (collection_of (program_in c.args.context.now) i)) c.deref-in-Kept.ensures in
    let whole = ap (λ i. collection_depth (collection_of (program_in c.args.context.now) i)) c.in-Kept.is in
    (omega (arith, same, whole), (c.requires.fits, (rw c.deref-in-Kept.ensures ((rw c.in-Kept.is at c.requires.below)), (omega (arith, same, whole, c.requires.shallow), rw c.deref-in-Kept.ensures ((rw c.in-Kept.is at c.requires.collection_held).0)))))

pub members_part-members_part-requires-in-Chosen : goal.members_part-members_part-requires-in-Chosen
members_part-members_part-requires-in-Chosen t c =
    let same = ap (λ i. collection_depth (collection_of (program_in c.args.context.now) i)) c.deref-in-Chosen.ensures in
    let whole = ap (λ i. collection_depth (collection_of (program_in c.args.context.now) i)) c.in-Chosen.is in
    (omega (arith, same, whole), (c.requires.fits, (rw c.deref-in-Chosen.ensures ((rw c.in-Chosen.is at c.requires.below).0), (omega (arith, same, whole, c.requires.shallow), rw c.deref-in-Chosen.ensures ((rw c.in-Chosen.is at c.requires.collection_held).1)))))

pub members_part-members_part-requires-in-Chosen-2 : goal.members_part-members_part-requires-in-Chosen-2
members_part-members_part-requires-in-Chosen-2 t c =
    let same = ap (λ i. collection_depth (collection_of (program_in c.args.context.now) i)) c.deref-in-Chosen-2.ensures in
    let whole = ap (λ i. collection_depth (collection_of (program_in c.args.context.now) i)) c.in-Chosen.is in
    (omega (arith, same, whole), (c.requires.fits, (rw c.deref-in-Chosen-2.ensures ((rw c.in-Chosen.is at c.requires.below).1), (omega (arith, same, whole, c.requires.shallow), rw c.deref-in-Chosen-2.ensures ((rw c.in-Chosen.is at c.requires.collection_held).2)))))

pub members_part-part-requires : goal.members_part-part-requires
members_part-part-requires t c =
    let below = (rw c.in-Added.is at c.requires.below).1 in
    (omega (arith, below), (c.requires.fits, (rw c.in-Added.is at c.requires.collection_held).2))

pub members_part-returns-in_err-types-in-Added-clause-err : goal.members_part-returns-in_err-types-in-Added-clause-err
members_part-returns-in_err-types-in-Added-clause-err t c =
    told_on _ _ c.from_residual-in_err-types-in-Added.ensures.1 (collection_tells (program_in c.args.context.now) (context_in c.args.context.now) c.args.input.now c.in-Added.is (λ d k. added_members k) (rw c.deref.ensures at c.in_err-types-in-Added.ensures.err))

pub members_part-returns-in_err-given-in-Added-clause-err : goal.members_part-returns-in_err-given-in-Added-clause-err
members_part-returns-in_err-given-in-Added-clause-err t c =
    told_on _ _ c.from_residual-in_err-given-in-Added.ensures.1 (collection_tells (program_in c.args.context.now) (context_in c.args.context.now) c.args.input.now c.in-Added.is (λ d k. added_key_within (rw c.deref.ensures at c.in_ok-types-in-Added.ensures.ok) k) (c.in_err-given-in-Added.ensures.err))

pub members_part-returns-in_err-output-in-Added-clause-err : goal.members_part-returns-in_err-output-in-Added-clause-err
members_part-returns-in_err-output-in-Added-clause-err t c =
    told_on _ _ c.from_residual-in_err-output-in-Added.ensures.1 (collection_tells (program_in c.args.context.now) (context_in c.args.context.now) c.args.input.now c.in-Added.is (λ d k. member_within (rw c.deref.ensures at c.in_ok-types-in-Added.ensures.ok) c.in_ok-given-in-Added.ensures.ok k) (c.in_err-output-in-Added.ensures.err))

pub members_part-returns-in_err-suits_keys-in-Added-clause-err : goal.members_part-returns-in_err-suits_keys-in-Added-clause-err
members_part-returns-in_err-suits_keys-in-Added-clause-err t c =
    told_on _ _ c.from_residual-in_err-suits_keys-in-Added.ensures.1 (collection_tells (program_in c.args.context.now) (context_in c.args.context.now) c.args.input.now c.in-Added.is (λ d k. added_key (rw c.deref.ensures at c.in_ok-types-in-Added.ensures.ok) c.in_ok-given-in-Added.ensures.ok c.in_ok-output-in-Added.ensures.ok k) (c.in_err-suits_keys-in-Added.ensures.err))

pub members_part-returns-in_err-suits_type-in-Added-clause-err : goal.members_part-returns-in_err-suits_type-in-Added-clause-err
members_part-returns-in_err-suits_type-in-Added-clause-err t c =
    told_on _ _ c.from_residual-in_err-suits_type-in-Added.ensures.1 (collection_tells (program_in c.args.context.now) (context_in c.args.context.now) c.args.input.now c.in-Added.is (λ d k. member_output (rw c.deref.ensures at c.in_ok-types-in-Added.ensures.ok) (subst (HasType (names_of_values (context_in c.args.context.now)) (expression (program_expressions (program_in c.args.context.now)) _)) c.in_ok-suits_keys-in-Added.ensures.ok c.in_ok-given-in-Added.ensures.ok) c.in_ok-output-in-Added.ensures.ok k) (c.in_err-suits_type-in-Added.ensures.err))

pub members_part-returns-in_ok-suits_type-in-Added-clause-ok : goal.members_part-returns-in_ok-suits_type-in-Added-clause-ok
members_part-returns-in_ok-suits_type-in-Added-clause-ok t c =
    rw c.in-Added.is (added_collects (program_in c.args.context.now) (context_in c.args.context.now) c.args.input.now _ _ _ c.in-Added.spot _ _ (rw c.deref.ensures at c.in_ok-types-in-Added.ensures.ok) _ c.in_ok-given-in-Added.ensures.ok _ c.in_ok-output-in-Added.ensures.ok (found_same c.in_ok-suits_keys-in-Added.ensures.ok) (found_same c.in_ok-suits_type-in-Added.ensures.ok))

pub members_part-returns-in_err-types-in-Dropped-clause-err : goal.members_part-returns-in_err-types-in-Dropped-clause-err
members_part-returns-in_err-types-in-Dropped-clause-err t c =
    told_on _ _ c.from_residual-in_err-types-in-Dropped.ensures.1 (collection_tells (program_in c.args.context.now) (context_in c.args.context.now) c.args.input.now c.in-Dropped.is (λ d k. dropped_members k) (rw c.deref-in-Dropped.ensures at c.in_err-types-in-Dropped.ensures.err))

pub members_part-returns-in_err-given-in-Dropped-clause-err : goal.members_part-returns-in_err-given-in-Dropped-clause-err
members_part-returns-in_err-given-in-Dropped-clause-err t c =
    told_on _ _ c.from_residual-in_err-given-in-Dropped.ensures.1 (collection_tells (program_in c.args.context.now) (context_in c.args.context.now) c.args.input.now c.in-Dropped.is (λ d k. dropped_key_within (rw c.deref-in-Dropped.ensures at c.in_ok-types-in-Dropped.ensures.ok) k) (c.in_err-given-in-Dropped.ensures.err))

pub members_part-returns-in_err-suits_keys-in-Dropped-clause-err : goal.members_part-returns-in_err-suits_keys-in-Dropped-clause-err
members_part-returns-in_err-suits_keys-in-Dropped-clause-err t c =
    told_on _ _ c.from_residual-in_err-suits_keys-in-Dropped.ensures.1 (collection_tells (program_in c.args.context.now) (context_in c.args.context.now) c.args.input.now c.in-Dropped.is (λ d k. dropped_key (rw c.deref-in-Dropped.ensures at c.in_ok-types-in-Dropped.ensures.ok) c.in_ok-given-in-Dropped.ensures.ok k) (c.in_err-suits_keys-in-Dropped.ensures.err))

pub members_part-returns-in_ok-suits_keys-in-Dropped-clause-ok : goal.members_part-returns-in_ok-suits_keys-in-Dropped-clause-ok
members_part-returns-in_ok-suits_keys-in-Dropped-clause-ok t c =
    rw c.in-Dropped.is (dropped_collects (program_in c.args.context.now) (context_in c.args.context.now) c.args.input.now _ _ c.in-Dropped.spot _ _ (rw c.deref-in-Dropped.ensures at c.in_ok-types-in-Dropped.ensures.ok) _ c.in_ok-given-in-Dropped.ensures.ok (found_same c.in_ok-suits_keys-in-Dropped.ensures.ok))

pub members_part-returns-in_err-types-in-Kept-clause-err : goal.members_part-returns-in_err-types-in-Kept-clause-err
members_part-returns-in_err-types-in-Kept-clause-err t c =
    told_on _ _ c.from_residual-in_err-types-in-Kept.ensures.1 (collection_tells (program_in c.args.context.now) (context_in c.args.context.now) c.args.input.now c.in-Kept.is (λ d k. kept_members k) (rw c.deref-in-Kept.ensures at c.in_err-types-in-Kept.ensures.err))

pub members_part-returns-in_err-kept-in-Kept-clause-err : goal.members_part-returns-in_err-kept-in-Kept-clause-err
members_part-returns-in_err-kept-in-Kept-clause-err t c =
    told_on _ _ c.from_residual-in_err-kept-in-Kept.ensures.1 (collection_tells (program_in c.args.context.now) (context_in c.args.context.now) c.args.input.now c.in-Kept.is (λ d k. kept_within (rw c.deref-in-Kept.ensures at c.in_ok-types-in-Kept.ensures.ok) k) (rw c.type_of_keys-keys.ensures at c.in_err-kept-in-Kept.ensures.err))

pub members_part-returns-in_err-suits_type-in-Kept-clause-err : goal.members_part-returns-in_err-suits_type-in-Kept-clause-err
members_part-returns-in_err-suits_type-in-Kept-clause-err t c =
    told_on _ _ c.from_residual-in_err-suits_type-in-Kept.ensures.1 (collection_tells (program_in c.args.context.now) (context_in c.args.context.now) c.args.input.now c.in-Kept.is (λ d k. kept_truth (rw c.deref-in-Kept.ensures at c.in_ok-types-in-Kept.ensures.ok) (rw c.type_of_keys-keys.ensures at c.in_ok-kept-in-Kept.ensures.ok) k) (rw c.bool.ensures at c.in_err-suits_type-in-Kept.ensures.err))

pub members_part-returns-in_ok-suits_type-in-Kept-clause-ok : goal.members_part-returns-in_ok-suits_type-in-Kept-clause-ok
members_part-returns-in_ok-suits_type-in-Kept-clause-ok t c =
    rw c.in-Kept.is (kept_collects (program_in c.args.context.now) (context_in c.args.context.now) c.args.input.now _ _ c.in-Kept.spot _ _ (rw c.deref-in-Kept.ensures at c.in_ok-types-in-Kept.ensures.ok) _ (rw c.type_of_keys-keys.ensures at c.in_ok-kept-in-Kept.ensures.ok) (found_same (rw c.bool.ensures at c.in_ok-suits_type-in-Kept.ensures.ok)))

pub members_part-returns-in_err-given-in-Chosen-clause-err : goal.members_part-returns-in_err-given-in-Chosen-clause-err
members_part-returns-in_err-given-in-Chosen-clause-err t c =
    told_on _ _ c.from_residual-in_err-given-in-Chosen.ensures.1 (collection_tells (program_in c.args.context.now) (context_in c.args.context.now) c.args.input.now c.in-Chosen.is (λ d k. choice_within k) (c.in_err-given-in-Chosen.ensures.err))

pub members_part-returns-in_err-types-in-Chosen-clause-err : goal.members_part-returns-in_err-types-in-Chosen-clause-err
members_part-returns-in_err-types-in-Chosen-clause-err t c =
    told_on _ _ c.from_residual-in_err-types-in-Chosen.ensures.1 (collection_tells (program_in c.args.context.now) (context_in c.args.context.now) c.args.input.now c.in-Chosen.is (λ d k. one_members c.in_ok-given-in-Chosen.ensures.ok k) (rw c.deref-in-Chosen.ensures at c.in_err-types-in-Chosen.ensures.err))

pub members_part-returns-in_err-others-in-Chosen-clause-err : goal.members_part-returns-in_err-others-in-Chosen-clause-err
members_part-returns-in_err-others-in-Chosen-clause-err t c =
    told_on _ _ c.from_residual-in_err-others-in-Chosen.ensures.1 (collection_tells (program_in c.args.context.now) (context_in c.args.context.now) c.args.input.now c.in-Chosen.is (λ d k. other_members c.in_ok-given-in-Chosen.ensures.ok (rw c.deref-in-Chosen.ensures at c.in_ok-types-in-Chosen.ensures.ok) k) (rw c.deref-in-Chosen-2.ensures at c.in_err-others-in-Chosen.ensures.err))

pub members_part-returns-in_err-suits_type-in-Chosen-clause-err : goal.members_part-returns-in_err-suits_type-in-Chosen-clause-err
members_part-returns-in_err-suits_type-in-Chosen-clause-err t c =
    told_on _ _ c.from_residual-in_err-suits_type-in-Chosen.ensures.1 (collection_tells (program_in c.args.context.now) (context_in c.args.context.now) c.args.input.now c.in-Chosen.is (λ d k. choice_truth c.in_ok-given-in-Chosen.ensures.ok (rw c.deref-in-Chosen.ensures at c.in_ok-types-in-Chosen.ensures.ok) (rw c.deref-in-Chosen-2.ensures at c.in_ok-others-in-Chosen.ensures.ok) k) (rw c.bool-in-Chosen.ensures at c.in_err-suits_type-in-Chosen.ensures.err))

pub members_part-returns-in_err-suits_members-in-Chosen-clause-err : goal.members_part-returns-in_err-suits_members-in-Chosen-clause-err
members_part-returns-in_err-suits_members-in-Chosen-clause-err t c =
    told_on _ _ c.from_residual-in_err-suits_members-in-Chosen.ensures.1 (collection_tells (program_in c.args.context.now) (context_in c.args.context.now) c.args.input.now c.in-Chosen.is (λ d k. choice_tables (subst (HasType (names_of_values (context_in c.args.context.now)) (expression (program_expressions (program_in c.args.context.now)) _)) (rw c.bool-in-Chosen.ensures at c.in_ok-suits_type-in-Chosen.ensures.ok) c.in_ok-given-in-Chosen.ensures.ok) (rw c.deref-in-Chosen.ensures at c.in_ok-types-in-Chosen.ensures.ok) (rw c.deref-in-Chosen-2.ensures at c.in_ok-others-in-Chosen.ensures.ok) k) (c.in_err-suits_members-in-Chosen.ensures.err))

pub members_part-returns-in_ok-suits_members-in-Chosen-clause-ok : goal.members_part-returns-in_ok-suits_members-in-Chosen-clause-ok
members_part-returns-in_ok-suits_members-in-Chosen-clause-ok t c =
    rw c.in-Chosen.is (chosen_collects (program_in c.args.context.now) (context_in c.args.context.now) c.args.input.now _ _ _ c.in-Chosen.spot _ c.in_ok-given-in-Chosen.ensures.ok _ _ (rw c.deref-in-Chosen.ensures at c.in_ok-types-in-Chosen.ensures.ok) _ _ (rw c.deref-in-Chosen-2.ensures at c.in_ok-others-in-Chosen.ensures.ok) (found_same (rw c.bool-in-Chosen.ensures at c.in_ok-suits_type-in-Chosen.ensures.ok)) c.in_ok-suits_members-in-Chosen.ensures.ok)

-- ## Bodies

pub explain_kept-returns-in_err-names : goal.explain_kept-returns-in_err-names
explain_kept-returns-in_err-names t c = room_on _ _ c.from_residual.ensures.1

pub explain_kept-returns : goal.explain_kept-returns
explain_kept-returns t c =
    subst (λ (Γ : Context). IfErr c.explain_inside.result (λ e. Explains (StopsBody (program_in c.args.context.now) Γ c.args.body.now) e)) c.in_ok-names.ensures c.explain_inside.ensures

pub explain_inside-returns-in_err-inner : goal.explain_inside-returns-in_err-inner
explain_inside-returns-in_err-inner t c = room_on _ _ c.from_residual.ensures.1

pub explain_inside-returns : goal.explain_inside-returns
explain_inside-returns t c =
    let inner = c.in_ok-inner.ensures in
    subst₂ (λ (p : Program) (Γ : Context). IfErr c.explain_body.result (λ e. Explains (StopsBody p Γ c.args.body.now) e)) inner.program inner.context c.explain_body.ensures

pub explain_body-returns-in_err-names : goal.explain_body-returns-in_err-names
explain_body-returns-in_err-names t c = told_on _ _ c.from_residual.ensures.1 (told_as (λ d k. inl (body_pattern k)) c.in_err-names.ensures.err)

pub explain_body-returns-in_err-given : goal.explain_body-returns-in_err-given
explain_body-returns-in_err-given t c =
    let names = c.in_ok-names.ensures in
    told_on _ _ c.from_residual-in_err-given.ensures.1
    (told_as (λ d k. inr (names.bound, subst (λ (Γ : Context). TermDiffers (program_in c.args.context.now) Γ c.args.body.now.term c.args.body.now.input.now d) names.inside k)) c.in_err-given.ensures.err)

pub explain_body-returns-in_err-clone_in : goal.explain_body-returns-in_err-clone_in
explain_body-returns-in_err-clone_in t c = room_on _ _ c.from_residual-in_err-clone_in.ensures.1

pub explain_body-returns : goal.explain_body-returns
explain_body-returns t c =
    let names = c.in_ok-names.ensures in
    let body = subst (λ (Γ : Context). Takes Γ (tree (program_in c.args.context.now) c.args.body.now.term) c.args.body.now.input.now c.in_ok-given.given) names.inside c.in_ok-given.ensures.ok in
    on_err c.suited.result (λ b h. told_as (λ d k. inl (body_output names.bound body (exactly_as c.in_ok-clone_in.ensures.same k))) h) c.suited.ensures.err
