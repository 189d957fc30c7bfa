use Rattle.std.proofs.Common.{◌≡◌, List, length, sym, subst, ◌∙◌, arith}
use Rattle.std.specs.List.{All}
use Rattle.std.proofs.lemmas.List.Folds.{list_any_at}
use Rattle.sf_term.specs.declared.node.Argument.{Argument}
use Rattle.sf_term.specs.declared.node.Node.TheVariants as nodes
use Rattle.sf_term.specs.Arena.{collection_node, HoldsArgument}
use Rattle.sf_print.specs.Arguments.{argument_needs_two, ArgumentWithin, IsWithin}
use Rattle.sf_print.proofs.Within.{parts_within, edited_within, edit_within}
use Rattle.sf_print.proofs.Needing.{none_found, arguments_any}
use Rattle.sf_print.proofs.versions.+needs.Goals as goal

pub arguments_need_two-returns-then-argument_needs_two : goal.arguments_need_two-returns-then-argument_needs_two
arguments_need_two-returns-then-argument_needs_two t c =
    let p = c.args.program.now in
    let vs = c.args.arguments.now in
    sym (arguments_any p vs ∙ list_any_at (argument_needs_two p) vs c.loop-argument.argument-index _ c.loop-argument-test.true (sym c.argument_needs_two.ensures ∙ c.if-argument_needs_two.true))

pub arguments_need_two-returns : goal.arguments_need_two-returns
arguments_need_two-returns t c =
    let p = c.args.program.now in
    let vs = c.args.arguments.now in
    let all : length vs ≡ c.loop-argument.argument-index = omega arith in
    none_found (argument_needs_two p) vs c.loop-argument.argument-index all c.loop-argument.invariant ∙ sym (arguments_any p vs)

pub term_needs_two-arguments_need_two-requires : goal.term_needs_two-arguments_need_two-requires
term_needs_two-arguments_need_two-requires t c =
    let p = c.args.program.now in
    (omega arith, (subst (λ (vs : List Argument). All (ArgumentWithin p c.args.id) vs) (sym c.arguments.ensures) (parts_within p c.args.id (nodes.Call c.in-Call.field-0 c.in-Call.arguments) c.in-Call.ensures.below c.in-Call.ensures.builds), subst (λ (vs : List Argument). All (HoldsArgument p) vs) (sym c.arguments.ensures) c.in-Call.ensures.held.2))

pub term_needs_two-members_need_two-requires : goal.term_needs_two-members_need_two-requires
term_needs_two-members_need_two-requires t c =
    let p = c.args.program.now in
    let w : IsWithin p c.args.id (collection_node p c.in-Gathered.members) = parts_within p c.args.id (nodes.Gathered c.in-Gathered.members) c.in-Gathered.ensures.below c.in-Gathered.ensures.builds in
    (omega (arith, w.1), (w, c.in-Gathered.ensures.held))

pub term_needs_two-releasing_needs_two-requires : goal.term_needs_two-releasing_needs_two-requires
term_needs_two-releasing_needs_two-requires t c = (omega arith, (parts_within c.args.program.now c.args.id (nodes.Releasing c.in-Releasing.form) c.in-Releasing.ensures.below c.in-Releasing.ensures.builds, c.in-Releasing.ensures.held))

pub term_needs_two-members_need_two-requires-in-Editing : goal.term_needs_two-members_need_two-requires-in-Editing
term_needs_two-members_need_two-requires-in-Editing t c =
    let p = c.args.program.now in
    let w : IsWithin p c.args.id (collection_node p c.in-Editing.form.members) = edited_within (parts_within p c.args.id (nodes.Editing c.in-Editing.form) c.in-Editing.ensures.below c.in-Editing.ensures.builds) in
    (omega (arith, w.1), (w, c.in-Editing.ensures.held.0))

pub term_needs_two-members_need_two-requires-else-members_need_two : goal.term_needs_two-members_need_two-requires-else-members_need_two
term_needs_two-members_need_two-requires-else-members_need_two t c =
    let p = c.args.program.now in
    let w : IsWithin p c.args.id (collection_node p c.in-Editing.form.edit) = edit_within (parts_within p c.args.id (nodes.Editing c.in-Editing.form) c.in-Editing.ensures.below c.in-Editing.ensures.builds) in
    (omega (arith, w.1), (w, c.in-Editing.ensures.held.3))
