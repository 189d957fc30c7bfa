use Rattle.std.proofs.Common.{◌≡◌, ◌≤◌, false, All, ◌&&◌, ◌∙◌, sym, ap, Ok, true, length, subst, arith}
use mathlib.Core.Path.{ap₂}
use Rattle.std.specs.Iterator.Adapters.{zip_first, zip_second}
use Rattle.std.specs.Slice.Iter.{iter_rest}
use Rattle.std.proofs.lemmas.List.Elements.{All-same, All-rest, All-head}
use Rattle.std.proofs.lemmas.List.{length-map}
use Rattle.std.proofs.lemmas.Slice.Zip.{Zip-more, either_empty_from_Zip}
use Rattle.sf_refusal.specs.declared.rule.Rule.TheVariants.{UnknownName, Arity, Mismatch}
use Rattle.sf_refusal.specs.Refusals.{broken}
use Rattle.sf_expr.specs.Typing.{Fits}
use Rattle.sf_expr.proofs.Judged.{answers_same, answers_on}
use Rattle.sf_term.specs.declared.form.Switching.{Switching}
use Rattle.sf_term.specs.declared.node.Node.{Node}
use Rattle.sf_term.specs.declared.node.Node.TheVariants as nodes
use Rattle.sf_term.specs.ParameterView.{kind_of_form}
use Rattle.sf_term.specs.Parameters.{binding_of}
use Rattle.sf_term.specs.Trees.{arguments_depth, collection_depth}
use Rattle.sf_term.specs.Arena.{term_number, term_spot_at, argument_nodes, arguments_of, collection_node, collection_of, CollectionBelow, ArgumentBelow, HoldsTermParts, HoldsArgument, HoldsMembers, HoldsWhole}
use Rattle.sf_reach.proofs.Shallow.{arguments_shallow, members_shallow, released_shallow, edited_shallow, first_shallow, rest_shallow}
use Rattle.sf_check.specs.Contexts.{program_in, context_in}
use Rattle.sf_mean.specs.Contexts.{NameKind}
use Rattle.sf_operator.specs.Kinds.{same_kind}
use Rattle.sf_value.specs.Values.{Kind}
use Rattle.sf_expr.specs.Judging.{Stops}
use Rattle.sf_check.specs.Judging.{argument_judged, judged_as, term_judged}
use Rattle.sf_check.proofs.Judging.{go, told_same, term_form}
use Rattle.sf_check.proofs.Calls.{none_absent, not_many, as_many, and_false, so_first, so_next, so_stops, so_end, no_template_stops, other_number_stops, arguments_stop, call_stops, call_goes}
use Rattle.sf_check.proofs.typing.+output.Goals.{call_output-else-fit-via-then-fit+else-same_type, call_output-else-fit-via-else-fit}
use Rattle.sf_check.proofs.typing.+output.Goals as goal

pub judge-returns : goal.judge-returns
judge-returns t c =
    let p = c.args.context.now.program.now in
    let Γ = context_in c.args.context.now in
    answers_same _ (term_form p c.args.term Γ c.args.input.now ∙ ap (λ (n : Node). judged_as p c.args.term n Γ c.args.input.now) (sym c.node-node.ensures.value)) c.judge_form.ensures

pub switching_output-returns-in-Basic : goal.switching_output-returns-in-Basic
switching_output-returns-in-Basic t c =
    answers_same _ (ap (λ (w : Switching). judged_as (program_in c.args.context.now) c.args.term (nodes.Switching (record c.args.form { form = w })) (context_in c.args.context.now) c.args.input.now) c.in-Basic.is) c.basic_output.ensures

pub switching_output-returns-in-Recurring : goal.switching_output-returns-in-Recurring
switching_output-returns-in-Recurring t c =
    answers_same _ (ap (λ (w : Switching). judged_as (program_in c.args.context.now) c.args.term (nodes.Switching (record c.args.form { form = w })) (context_in c.args.context.now) c.args.input.now) c.in-Recurring.is) c.recurring_output.ensures

pub argument_fits-judge_members-requires : goal.argument_fits-judge_members-requires
argument_fits-judge_members-requires t c =
    let is = c.in-Collection-Collection.is-0 in
    (omega arith, (subst (ArgumentBelow (program_in c.args.context.now) (term_number c.args.term)) is c.requires.below, (c.requires.shallow _ is, subst (HoldsArgument (program_in c.args.context.now)) is c.requires.argument_held)))

pub judge_members-members_of-requires : goal.judge_members-members_of-requires
judge_members-members_of-requires t c =
    let there = c.collection.ensures in
    let shallow = subst (λ i. collection_depth (collection_of (program_in c.args.context.now) i) ≤ 64) (sym there) c.requires.shallow in
    (omega (arith, shallow), (subst (CollectionBelow (term_number c.args.form)) (sym there) c.requires.below, (shallow, subst (HoldsMembers (program_in c.args.context.now)) (sym there) c.requires.members_held.1)))

pub members_of-members_of-requires : goal.members_of-members_of-requires
members_of-members_of-requires t c =
    let same = ap (λ i. collection_depth (collection_of (program_in c.args.context.now) i)) c.deref.ensures in
    let whole = ap (λ i. collection_depth (collection_of (program_in c.args.context.now) i)) c.in-Added.is in
    (omega (arith, same, whole), (rw c.deref.ensures ((rw c.in-Added.is at c.requires.below).0), (omega (arith, same, whole, c.requires.shallow), rw c.deref.ensures ((rw c.in-Added.is at c.requires.collection_held).0))))

pub members_of-members_of-requires-in-Dropped : goal.members_of-members_of-requires-in-Dropped
members_of-members_of-requires-in-Dropped t c =
    let same = ap (λ i. collection_depth (collection_of (program_in c.args.context.now) i)) c.deref-in-Dropped.ensures in
    let whole = ap (λ i. collection_depth (collection_of (program_in c.args.context.now) i)) c.in-Dropped.is in
    (omega (arith, same, whole), (rw c.deref-in-Dropped.ensures ((rw c.in-Dropped.is at c.requires.below)), (omega (arith, same, whole, c.requires.shallow), rw c.deref-in-Dropped.ensures ((rw c.in-Dropped.is at c.requires.collection_held).0))))

pub members_of-members_of-requires-in-Kept : goal.members_of-members_of-requires-in-Kept
members_of-members_of-requires-in-Kept t c =
    let same = ap (λ i. collection_depth (collection_of (program_in c.args.context.now) i)) c.deref-in-Kept.ensures in
    let whole = ap (λ i. collection_depth (collection_of (program_in c.args.context.now) i)) c.in-Kept.is in
    (omega (arith, same, whole), (rw c.deref-in-Kept.ensures ((rw c.in-Kept.is at c.requires.below)), (omega (arith, same, whole, c.requires.shallow), rw c.deref-in-Kept.ensures ((rw c.in-Kept.is at c.requires.collection_held).0))))

pub members_of-members_of-requires-in-Chosen : goal.members_of-members_of-requires-in-Chosen
members_of-members_of-requires-in-Chosen t c =
    let same = ap (λ i. collection_depth (collection_of (program_in c.args.context.now) i)) c.deref-in-Chosen.ensures in
    let whole = ap (λ i. collection_depth (collection_of (program_in c.args.context.now) i)) c.in-Chosen.is in
    (omega (arith, same, whole), (rw c.deref-in-Chosen.ensures ((rw c.in-Chosen.is at c.requires.below).0), (omega (arith, same, whole, c.requires.shallow), rw c.deref-in-Chosen.ensures ((rw c.in-Chosen.is at c.requires.collection_held).1))))

pub members_of-members_of-requires-in-Chosen-2 : goal.members_of-members_of-requires-in-Chosen-2
members_of-members_of-requires-in-Chosen-2 t c =
    let same = ap (λ i. collection_depth (collection_of (program_in c.args.context.now) i)) c.deref-in-Chosen-2.ensures in
    let whole = ap (λ i. collection_depth (collection_of (program_in c.args.context.now) i)) c.in-Chosen.is in
    (omega (arith, same, whole), (rw c.deref-in-Chosen-2.ensures ((rw c.in-Chosen.is at c.requires.below).1), (omega (arith, same, whole, c.requires.shallow), rw c.deref-in-Chosen-2.ensures ((rw c.in-Chosen.is at c.requires.collection_held).2))))

pub members_of-judge-requires : goal.members_of-judge-requires
members_of-judge-requires t c = let below = (rw c.in-Added.is at c.requires.below).1 in (omega (arith, below), (rw c.in-Added.is at c.requires.collection_held).2)

pub gathered_output-judge_members-requires : goal.gathered_output-judge_members-requires
gathered_output-judge_members-requires t c = (omega arith, (c.requires.below, (members_shallow (program_in c.args.context.now) c.args.term c.args.members (sym c.requires.there), c.requires.members_held)))

pub releasing_output-judge_members-requires : goal.releasing_output-judge_members-requires
releasing_output-judge_members-requires t c = (omega arith, (c.requires.below.0, (released_shallow (program_in c.args.context.now) c.args.term c.args.form (sym c.requires.there), c.requires.form_held.0)))

pub editing_output-judge_members-requires : goal.editing_output-judge_members-requires
editing_output-judge_members-requires t c = (omega arith, (c.requires.below.0, ((edited_shallow (program_in c.args.context.now) c.args.term c.args.form (sym c.requires.there)).0, c.requires.form_held.0)))

pub editing_output-edited_types-requires : goal.editing_output-edited_types-requires
editing_output-edited_types-requires t c = (omega arith, (c.requires.below.1, ((edited_shallow (program_in c.args.context.now) c.args.term c.args.form (sym c.requires.there)).1, c.requires.form_held)))

pub edit_within-edit_types-requires : goal.edit_within-edit_types-requires
edit_within-edit_types-requires t c =
    let same = sym c.in_ok-inner.ensures.program in
    (omega arith, (subst (λ p. CollectionBelow (term_number c.args.term) (collection_node p c.args.edit.now.form.edit)) same c.requires.below, (subst (λ p. collection_depth (collection_of p (collection_node p c.args.edit.now.form.edit)) ≤ 64) same c.requires.shallow, subst (λ p. HoldsTermParts p (nodes.Editing c.args.edit.now.form)) same c.requires.edit_held)))

pub members_within-judge_members-requires : goal.members_within-judge_members-requires
members_within-judge_members-requires t c =
    let same = sym c.in_ok-inner.ensures.program in
    (omega arith, (subst (λ p. CollectionBelow (term_number c.args.form) (collection_node p c.args.members)) same c.requires.below, (subst (λ p. collection_depth (collection_of p (collection_node p c.args.members)) ≤ 64) same c.requires.shallow, subst (λ p. HoldsWhole p c.args.members) same c.requires.members_held)))

pub argument_fits-returns-in_ok-given-in-Collection-Collection : goal.argument_fits-returns-in_ok-given-in-Collection-Collection
argument_fits-returns-in_ok-given-in-Collection-Collection t c =
    let p = program_in c.args.context.now in
    ap₂ (argument_judged p (term_judged p) (term_spot_at p c.args.term) (context_in c.args.context.now)) c.in-Collection-Collection.is-0 (ap kind_of_form c.in-Collection-Collection.is-1)
    ∙ go _ c.in_ok-given-in-Collection-Collection.ensures (ap Ok (sym (told_same _ _ _ c.are_members.ensures)))

-- ## A call

pub call_output-returns-in_default : goal.call_output-returns-in_default
call_output-returns-in_default t c =
    no_template_stops (program_in c.args.context.now) (context_in c.args.context.now) c.args.term c.args.input.now c.args.name c.args.arguments _ (none_absent c.in_default.not-Some c.template.ensures.absent) (c.broken.ensures ∙ ap (broken UnknownName) c.spot-spot.ensures)

pub call_output-returns-then-arguments-parameters : goal.call_output-returns-then-arguments-parameters
call_output-returns-then-arguments-parameters t c =
    let count = length-map c.in-Some.template.now.parameters binding_of in
    let arguments = ap length c.arguments-arguments.ensures in
    let parameters = ap length c.parameters-parameters.ensures in
    other_number_stops (program_in c.args.context.now) (context_in c.args.context.now) c.args.term c.args.input.now c.args.name c.args.arguments _ c.in-Some.ensures.found _
    (not_many _ _ (λ same. c.if-arguments-parameters.true (arguments ∙ same ∙ count ∙ sym parameters))) (c.broken-then-arguments-parameters.ensures ∙ ap (broken Arity) c.spot-spot.ensures)

pub call_output-loop-argument-init : goal.call_output-loop-argument-init
call_output-loop-argument-init t c =
    let p = program_in c.args.context.now in
    let gives = c.into_iter-argument-iterator.ensures.into_iter_gives in
    let first : iter_rest (zip_first c.into_iter-argument-iterator.result) ≡ argument_nodes p c.args.arguments =
    ap (λ z. iter_rest (zip_first z)) gives ∙ ap iter_rest c.zip-argument-items.ensures.first ∙ c.iter.ensures.rest ∙ c.arguments-arguments.ensures in
    let given : iter_rest (zip_second c.zip-argument-items.result) ≡ c.parameters-parameters.result.now = c.zip-argument-items.ensures.second.0 in
    let second : iter_rest (zip_second c.into_iter-argument-iterator.result) ≡ c.in-Some.template.now.parameters =
    ap (λ z. iter_rest (zip_second z)) gives ∙ given ∙ c.parameters-parameters.ensures in
    record {
      so = so_first first second;
      below = All-same (ArgumentBelow p (term_number c.args.term)) _ _ first c.requires.below;
      held = All-same (HoldsArgument p) _ _ first c.requires.arguments_held.1;
      shallow = subst (λ vs. arguments_depth (arguments_of p vs) ≤ 64) (sym first) (arguments_shallow p c.args.term _ _ (sym c.requires.there));
    }

pub call_output-argument_fits-requires : goal.call_output-argument_fits-requires
call_output-argument_fits-requires t c =
    let p = program_in c.args.context.now in
    let step = Zip-more c.loop-argument.argument-iterator c.next.new.self _ _ c.in-Some-2.is c.next.ensures.steps in
    (omega arith, (All-head (ArgumentBelow p (term_number c.args.term)) _ _ (subst (All (ArgumentBelow p (term_number c.args.term))) step.0 c.loop-argument.invariant.below), ((λ i is. first_shallow p _ _ i is (subst (λ vs. arguments_depth (arguments_of p vs) ≤ 64) step.0 c.loop-argument.invariant.shallow)), (c.requires.term_held, All-head (HoldsArgument p) _ _ (subst (All (HoldsArgument p)) step.0 c.loop-argument.invariant.held)))))

pub call_output-loop-argument-preserved : goal.call_output-loop-argument-preserved
call_output-loop-argument-preserved t c =
    let p = program_in c.args.context.now in
    let step = Zip-more c.loop-argument.argument-iterator c.next.new.self _ _ c.in-Some-2.is c.next.ensures.steps in
    let answer = ap (argument_judged p (term_judged p) (term_spot_at p c.args.term) (context_in c.args.context.now) c.in-Some-2.argument.now) (sym c.form.ensures) ∙ c.in_ok-fit.ensures in
    record {
      so = so_next c.loop-argument.fit c.in_ok-fit.field-0 c.loop-argument.invariant.so step.0 step.1 answer;
      below = All-rest (ArgumentBelow p (term_number c.args.term)) _ _ _ step.0 c.loop-argument.invariant.below;
      held = All-rest (HoldsArgument p) _ _ _ step.0 c.loop-argument.invariant.held;
      shallow = rest_shallow p _ _ (subst (λ vs. arguments_depth (arguments_of p vs) ≤ 64) step.0 c.loop-argument.invariant.shallow);
    }

pub call_output-returns-in_err-fit : goal.call_output-returns-in_err-fit
call_output-returns-in_err-fit t c =
    let p = program_in c.args.context.now in
    let step = Zip-more c.loop-argument.argument-iterator c.next.new.self _ _ c.in-Some-2.is c.next.ensures.steps in
    let answer = subst (λ (k : NameKind). Stops c.in_err-fit.field-0.0 (argument_judged p (term_judged p) (term_spot_at p c.args.term) (context_in c.args.context.now) c.in-Some-2.argument.now k)) c.form.ensures c.in_err-fit.ensures in
    answers_on _ _ _ c.from_residual.ensures.1
    (arguments_stop p (context_in c.args.context.now) c.args.term c.args.input.now c.args.name c.args.arguments _ c.in-Some.ensures.found (as_many c.in-Some.template.now.parameters (ap length (sym c.arguments-arguments.ensures)) c.if-arguments-parameters.false (ap length c.parameters-parameters.ensures)) _ (so_stops _ c.loop-argument.invariant.so step.0 step.1 answer))

pub call_output-returns-in_ok-clone_in : goal.call_output-returns-in_ok-clone_in
call_output-returns-in_ok-clone_in t c =
    let p = program_in c.args.context.now in
    let fit = so_end c.loop-argument.invariant.so (either_empty_from_Zip c.loop-argument.argument-iterator c.next.new.self _ c.in-None.is c.next.ensures.steps) in
    let same = ap₂ (λ b c. b && c) c.if-fit.true (sym (told_same _ _ _ c.same_type.ensures) ∙ c.if-same_type.true) in
    call_goes p (context_in c.args.context.now) c.args.term c.args.input.now c.args.name c.args.arguments _ c.in-Some.ensures.found (as_many c.in-Some.template.now.parameters (ap length (sym c.arguments-arguments.ensures)) c.if-arguments-parameters.false (ap length c.parameters-parameters.ensures)) _ fit _
    (subst (λ (g : Kind). c.loop-argument.fit && same_kind c.args.input.now g ≡ true) c.input.ensures same) (subst Fits c.output.ensures c.in_ok-clone_in.ensures.small) (c.in_ok-clone_in.ensures.same ∙ c.output.ensures)

pub call_output-returns-else-fit : goal.call_output-returns-else-fit
call_output-returns-else-fit t c =
    let p = program_in c.args.context.now in
    let fit = so_end c.loop-argument.invariant.so (either_empty_from_Zip c.loop-argument.argument-iterator c.next.new.self _ c.in-None.is c.next.ensures.steps) in
    let other : c.loop-argument.fit && same_kind c.args.input.now c.in-Some.template.now.input ≡ false = elim c.else-fit.branch [
      | call_output-else-fit-via-then-fit+else-same_type w ↦ and_false c.loop-argument.fit (ap (same_kind c.args.input.now) (sym w.input.ensures) ∙ sym (told_same _ _ _ w.same_type.ensures) ∙ w.if-same_type.false)
      | call_output-else-fit-via-else-fit w ↦ ap (λ b. b && same_kind c.args.input.now c.in-Some.template.now.input) w.if-fit.false
    ] in
    call_stops p (context_in c.args.context.now) c.args.term c.args.input.now c.args.name c.args.arguments _ c.in-Some.ensures.found (as_many c.in-Some.template.now.parameters (ap length (sym c.arguments-arguments.ensures)) c.if-arguments-parameters.false (ap length c.parameters-parameters.ensures)) _ fit _ other (c.broken-else-fit.ensures ∙ ap (broken Mismatch) c.spot-spot.ensures)
