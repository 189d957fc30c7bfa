use Rattle.std.proofs.Common.{◌≡◌, ◌∙◌, refl, sym, ap, Some}
use Rattle.sf_value.specs.Values.{Name, Kind, bool_kind}
use Rattle.sf_func.specs.Registries.{types_named}
use Rattle.sf_func.specs.Signatures.{signatures_in}
use Rattle.sf_operator.specs.Kinds.{unary_kind, binary_kind, conditional_kind, mapped_argument, mapped_kind, called_kind, folded_argument, folded_kind}
use Rattle.sf_expr.specs.Arena.{name_at}
use Rattle.sf_expr.specs.Typing.{function_takes}
use Rattle.sf_expr.specs.Scopes.{frame_entries, entries_around, scope_names}
use Rattle.sf_expr.proofs.Bound.{functions_with, binds_with, bound_within, on_err}
use Rattle.sf_differ.specs.declared.difference.Wanted.TheVariants.{Exactly}
use Rattle.sf_differ.specs.Differences.{tells_nothing, lacks_room}
use Rattle.sf_differ.specs.Wanting.{IsMade}
use Rattle.sf_expr.specs.Contexts.{exprs_in, types_around}
use Rattle.sf_differ.specs.Differing.{bound_pattern, bound_body, operand_differs, left_differs, right_differs, condition_differs, other_differs, mapping_differs, mapped_pattern_differs, mapped_differs, folding_differs, folded_pattern_differs, second_differs, folded_differs, called_differs, pair_first, pair_second, operand_part, left_part, right_part, condition_part, one_part, other_part, mapped_part, mapped_body, folded_first, folded_second, folded_body, called_part}
use Rattle.sf_differ.proofs.Told.{told_as, told_on, room_on, unsaid_on, ok_as, suited_can, function_behind, part_told, suited_told, suited_last, bound_told}
use Rattle.sf_differ.proofs.Placed.{made_by, operand_any, left_any, right_any, condition_wants, other_wants, called_wants, mapping_any, mapped_any, folding_any, second_any, folded_any}
use Rattle.sf_differ.proofs.expression.+explain.Goals as goal

-- ## Typed parts

pub part_type-returns-in-Err-Memory-clause-err : goal.part_type-returns-in-Err-Memory-clause-err
part_type-returns-in-Err-Memory-clause-err t c = lacks_room

pub part_type-returns-in_ok-explain-in-Err-Broken-clause-err : goal.part_type-returns-in_ok-explain-in-Err-Broken-clause-err
part_type-returns-in_ok-explain-in-Err-Broken-clause-err t c = tells_nothing

pub part_within-returns-in_err-names-clause-err : goal.part_within-returns-in_err-names-clause-err
part_within-returns-in_err-names-clause-err t c = room_on _ _ c.from_residual.ensures.1

pub part_behind-returns-in-Ok-clause-ok : goal.part_behind-returns-in-Ok-clause-ok
part_behind-returns-in-Ok-clause-ok t c =
    let bound = bound_within (frame_entries c.in-Ok.frame) (entries_around c.args.context.now.names.now) _ refl c.in-Ok.ensures.bound in
    ok_as c.part_within.result (λ u h. function_takes c.in-Ok.ensures.fits (binds_with (signatures_in c.args.context.now.functions.now) bound) h) c.part_within.ensures.ok

pub part_behind-returns-in-Ok-clause-err : goal.part_behind-returns-in-Ok-clause-err
part_behind-returns-in-Ok-clause-err t c =
    let bound = bound_within (frame_entries c.in-Ok.frame) (entries_around c.args.context.now.names.now) _ refl c.in-Ok.ensures.bound in
    on_err c.part_within.result (λ b h. told_as (λ d k. bound_body (binds_with (signatures_in c.args.context.now.functions.now) bound) k) h) c.part_within.ensures.err

pub part_behind-returns-in-Err-clause-err : goal.part_behind-returns-in-Err-clause-err
part_behind-returns-in-Err-clause-err t c = told_as (λ d k. bound_pattern k) (c.pattern_blame.ensures c.args.at c.in-Err.ensures.err)

-- ## Pairs and operators

pub explain_pair-returns-in_err-part_type : goal.explain_pair-returns-in_err-part_type
explain_pair-returns-in_err-part_type t c = told_on _ _ c.from_residual.ensures.1 (part_told _ _ _ _ c.requires.there pair_first c.in_err-part_type.ensures.err)

pub explain_pair-returns-in_err-part_type-2 : goal.explain_pair-returns-in_err-part_type-2
explain_pair-returns-in_err-part_type-2 t c = told_on _ _ c.from_residual-in_err-part_type-2.ensures.1 (part_told _ _ _ _ c.requires.there (pair_second c.in_ok-part_type.ensures.ok) c.in_err-part_type-2.ensures.err)

pub explain_applied-returns-in_err-given : goal.explain_applied-returns-in_err-given
explain_applied-returns-in_err-given t c = told_on _ _ c.from_residual.ensures.1 (part_told _ _ _ _ c.requires.there operand_part c.in_err-given.ensures.err)

pub explain_applied-returns : goal.explain_applied-returns
explain_applied-returns t c =
    suited_last (exprs_in c.args.context.now) (types_around c.args.context.now) c.args.id _ c.requires.there
    (λ a. IsMade (unary_kind c.args.operator a)) _ _ (operand_any c.args.operator) c.operand_wanted.ensures _ c.spot.ensures _ (λ d h. operand_differs c.in_ok-given.ensures.ok h) _ c.suited.ensures.err

pub explain_operation-returns-in_err-first : goal.explain_operation-returns-in_err-first
explain_operation-returns-in_err-first t c = told_on _ _ c.from_residual.ensures.1 (part_told _ _ _ _ c.requires.there left_part c.in_err-first.ensures.err)

pub explain_operation-returns-in_err-second : goal.explain_operation-returns-in_err-second
explain_operation-returns-in_err-second t c = told_on _ _ c.from_residual-in_err-second.ensures.1 (part_told _ _ _ _ c.requires.there (right_part c.in_ok-first.ensures.ok) c.in_err-second.ensures.err)

pub explain_operation-returns-in_err-suited : goal.explain_operation-returns-in_err-suited
explain_operation-returns-in_err-suited t c =
    told_on _ _ c.from_residual-in_err-suited.ensures.1
    (suited_told (exprs_in c.args.context.now) (types_around c.args.context.now) c.args.id _ c.requires.there
    (λ a. (b : Kind) × IsMade (binary_kind c.args.operator a b)) _ _ (left_any c.args.operator) c.left_wanted.ensures _ c.spot-spot.ensures _ (λ d h. left_differs c.in_ok-first.ensures.ok c.in_ok-second.ensures.ok h) c.in_err-suited.ensures.err)

pub explain_operation-returns-in_err-wanted : goal.explain_operation-returns-in_err-wanted
explain_operation-returns-in_err-wanted t c = room_on _ _ c.from_residual-in_err-wanted.ensures.1

pub explain_operation-returns : goal.explain_operation-returns
explain_operation-returns t c =
    let op = c.args.operator in
    let left = suited_can (λ a. (b : Kind) × IsMade (binary_kind op a b)) _ _ c.in_ok-first.first (left_any op) c.left_wanted.ensures c.in_ok-suited.ensures.ok in
    suited_last (exprs_in c.args.context.now) (types_around c.args.context.now) c.args.id _ c.requires.there
    (λ b. IsMade (binary_kind op c.in_ok-first.first b)) _ _ (right_any op c.in_ok-first.first left.0 left.1) c.in_ok-wanted.ensures _ c.spot-spot.ensures _ (λ d h. right_differs c.in_ok-first.ensures.ok c.in_ok-second.ensures.ok h) _ c.suited-2.ensures.err

-- ## Conditionals

pub explain_conditional-returns-in_err-truth : goal.explain_conditional-returns-in_err-truth
explain_conditional-returns-in_err-truth t c = told_on _ _ c.from_residual.ensures.1 (part_told _ _ _ _ c.requires.there condition_part c.in_err-truth.ensures.err)

pub explain_conditional-returns-in_err-one : goal.explain_conditional-returns-in_err-one
explain_conditional-returns-in_err-one t c = told_on _ _ c.from_residual-in_err-one.ensures.1 (part_told _ _ _ _ c.requires.there (one_part c.in_ok-truth.ensures.ok) c.in_err-one.ensures.err)

pub explain_conditional-returns-in_err-other : goal.explain_conditional-returns-in_err-other
explain_conditional-returns-in_err-other t c = told_on _ _ c.from_residual-in_err-other.ensures.1 (part_told _ _ _ _ c.requires.there (other_part c.in_ok-truth.ensures.ok c.in_ok-one.ensures.ok) c.in_err-other.ensures.err)

pub explain_conditional-returns-in_err-suited : goal.explain_conditional-returns-in_err-suited
explain_conditional-returns-in_err-suited t c =
    told_on _ _ c.from_residual-in_err-suited.ensures.1
    (suited_told (exprs_in c.args.context.now) (types_around c.args.context.now) c.args.id _ c.requires.there
    (λ a. (b : Kind) × (e : Kind) × IsMade (conditional_kind a b e)) (Some (Exactly bool_kind)) _ condition_wants (ap (λ (t : Kind). Some (Exactly t)) c.bool.ensures) _ c.spot-spot.ensures _
    (λ d h. condition_differs c.in_ok-truth.ensures.ok c.in_ok-one.ensures.ok c.in_ok-other.ensures.ok h) c.in_err-suited.ensures.err)

pub explain_conditional-returns : goal.explain_conditional-returns
explain_conditional-returns t c =
    let truth : c.in_ok-truth.truth ≡ bool_kind = c.in_ok-suited.ensures.ok ∙ c.bool.ensures in
    suited_last (exprs_in c.args.context.now) (types_around c.args.context.now) c.args.id _ c.requires.there
    (λ e. IsMade (conditional_kind c.in_ok-truth.truth c.in_ok-one.one e)) (Some (Exactly c.in_ok-one.one)) _ (other_wants c.in_ok-truth.truth c.in_ok-one.one truth) refl _ c.spot-spot.ensures _
    (λ d h. other_differs c.in_ok-truth.ensures.ok c.in_ok-one.ensures.ok c.in_ok-other.ensures.ok h) _ c.suited-2.ensures.err

-- ## Forms with a function

pub explain_mapped-returns-in_err-given : goal.explain_mapped-returns-in_err-given
explain_mapped-returns-in_err-given t c = told_on _ _ c.from_residual.ensures.1 (part_told _ _ _ _ c.requires.there mapped_part c.in_err-given.ensures.err)

pub explain_mapped-returns-in_err-suited : goal.explain_mapped-returns-in_err-suited
explain_mapped-returns-in_err-suited t c =
    told_on _ _ c.from_residual-in_err-suited.ensures.1
    (suited_told (exprs_in c.args.context.now) (types_around c.args.context.now) c.args.id _ c.requires.there
    (λ a. IsMade (mapped_argument c.args.node.mapping a)) _ _ (mapping_any c.args.node.mapping) c.mapping_wanted.ensures _ c.spot-spot.ensures _ (λ d h. mapping_differs c.in_ok-given.ensures.ok h) c.in_err-suited.ensures.err)

pub explain_mapped-returns-in_err-argument : goal.explain_mapped-returns-in_err-argument
explain_mapped-returns-in_err-argument t c = unsaid_on _ _ _ c.from_residual-in_err-argument.ensures.1

pub explain_mapped-returns-in_err-made : goal.explain_mapped-returns-in_err-made
explain_mapped-returns-in_err-made t c =
    let argument = c.in_ok-argument.ensures in
    told_on _ _ c.from_residual-in_err-made.ensures.1
    (bound_told (exprs_in c.args.context.now) (types_around c.args.context.now) c.args.id _ c.requires.there _ c.spot-spot.ensures _ _ c.placed-pattern.ensures _ _
    (λ d h. mapped_pattern_differs c.in_ok-given.ensures.ok argument.0 argument.1 h) (λ S binds. mapped_body c.in_ok-given.ensures.ok argument.0 argument.1 binds) c.in_err-made.ensures.err)

pub explain_mapped-returns : goal.explain_mapped-returns
explain_mapped-returns t c =
    let argument = c.in_ok-argument.ensures in
    let R = types_around c.args.context.now in
    let made = function_behind c.placed-pattern.ensures c.in_ok-made.ensures.ok in
    suited_last (exprs_in c.args.context.now) R c.args.id _ c.requires.there
    (λ b. IsMade (mapped_kind c.args.node.mapping c.in_ok-given.given b)) _ _ (mapped_any c.args.node.mapping c.in_ok-given.given) c.mapped_wanted.ensures _ c.spot-spot.ensures _
    (λ d h. mapped_differs c.in_ok-given.ensures.ok argument.0 argument.1 made.1 made.2 h) _ c.suited-2.ensures.err

pub explain_folded-returns-in_err-one : goal.explain_folded-returns-in_err-one
explain_folded-returns-in_err-one t c = told_on _ _ c.from_residual.ensures.1 (part_told _ _ _ _ c.requires.there folded_first c.in_err-one.ensures.err)

pub explain_folded-returns-in_err-other : goal.explain_folded-returns-in_err-other
explain_folded-returns-in_err-other t c = told_on _ _ c.from_residual-in_err-other.ensures.1 (part_told _ _ _ _ c.requires.there (folded_second c.in_ok-one.ensures.ok) c.in_err-other.ensures.err)

pub explain_folded-returns-in_err-suited : goal.explain_folded-returns-in_err-suited
explain_folded-returns-in_err-suited t c =
    told_on _ _ c.from_residual-in_err-suited.ensures.1
    (suited_told (exprs_in c.args.context.now) (types_around c.args.context.now) c.args.id _ c.requires.there
    (λ a. (b : Kind) × IsMade (folded_argument c.args.node.folding a b)) _ _ (folding_any c.args.node.folding) c.folding_wanted.ensures _ c.spot-spot.ensures _ (λ d h. folding_differs c.in_ok-one.ensures.ok c.in_ok-other.ensures.ok h) c.in_err-suited.ensures.err)

pub explain_folded-returns-in_err-argument : goal.explain_folded-returns-in_err-argument
explain_folded-returns-in_err-argument t c = unsaid_on _ _ _ c.from_residual-in_err-argument.ensures.1

pub explain_folded-returns-in_err-made : goal.explain_folded-returns-in_err-made
explain_folded-returns-in_err-made t c =
    let argument = c.in_ok-argument.ensures in
    told_on _ _ c.from_residual-in_err-made.ensures.1
    (bound_told (exprs_in c.args.context.now) (types_around c.args.context.now) c.args.id _ c.requires.there _ c.spot-spot.ensures _ _ c.placed-pattern.ensures _ _
    (λ d h. folded_pattern_differs c.in_ok-one.ensures.ok c.in_ok-other.ensures.ok argument.0 argument.1 h) (λ S binds. folded_body c.in_ok-one.ensures.ok c.in_ok-other.ensures.ok argument.0 argument.1 binds) c.in_err-made.ensures.err)

pub explain_folded-returns-in_err-wanted : goal.explain_folded-returns-in_err-wanted
explain_folded-returns-in_err-wanted t c = room_on _ _ c.from_residual-in_err-wanted.ensures.1

pub explain_folded-returns-in_err-suited-2 : goal.explain_folded-returns-in_err-suited-2
explain_folded-returns-in_err-suited-2 t c =
    let argument = c.in_ok-argument.ensures in
    let made = function_behind c.placed-pattern.ensures c.in_ok-made.ensures.ok in
    told_on _ _ c.from_residual-in_err-suited-2.ensures.1
    (suited_told (exprs_in c.args.context.now) (types_around c.args.context.now) c.args.id _ c.requires.there
    (λ b. (e : Kind) × IsMade (folded_kind c.args.node.folding c.in_ok-one.one b e)) _ _ (second_any c.args.node.folding c.in_ok-one.one c.in_ok-other.other (made_by argument.0)) c.in_ok-wanted.ensures _ c.spot-spot.ensures _
    (λ d h. second_differs c.in_ok-one.ensures.ok c.in_ok-other.ensures.ok argument.0 argument.1 made.1 made.2 h) c.in_err-suited-2.ensures.err)

pub explain_folded-returns-in_err-wanted-2 : goal.explain_folded-returns-in_err-wanted-2
explain_folded-returns-in_err-wanted-2 t c = room_on _ _ c.from_residual-in_err-wanted-2.ensures.1

pub explain_folded-returns : goal.explain_folded-returns
explain_folded-returns t c =
    let argument = c.in_ok-argument.ensures in
    let made = function_behind c.placed-pattern.ensures c.in_ok-made.ensures.ok in
    let o = c.args.node.folding in
    let can = suited_can (λ b. (e : Kind) × IsMade (folded_kind o c.in_ok-one.one b e)) _ _ c.in_ok-other.other (second_any o c.in_ok-one.one c.in_ok-other.other (made_by argument.0)) c.in_ok-wanted.ensures c.in_ok-suited-2.ensures.ok in
    suited_last (exprs_in c.args.context.now) (types_around c.args.context.now) c.args.id _ c.requires.there
    (λ e. IsMade (folded_kind o c.in_ok-one.one c.in_ok-other.other e)) _ _ (folded_any o c.in_ok-one.one c.in_ok-other.other can.0 can.1) c.in_ok-wanted-2.ensures _ c.spot-spot.ensures _
    (λ d h. folded_differs c.in_ok-one.ensures.ok c.in_ok-other.ensures.ok argument.0 argument.1 made.1 made.2 h) _ c.suited-3.ensures.err

-- ## Calls of stored functions

pub explain_called-returns-in_err-given : goal.explain_called-returns-in_err-given
explain_called-returns-in_err-given t c = told_on _ _ c.from_residual.ensures.1 (part_told _ _ _ _ c.requires.there called_part c.in_err-given.ensures.err)

pub explain_called-returns-in_err-clone_in : goal.explain_called-returns-in_err-clone_in
explain_called-returns-in_err-clone_in t c = room_on _ _ c.from_residual-in_err-clone_in.ensures.1

pub explain_called-returns : goal.explain_called-returns
explain_called-returns t c =
    let x = exprs_in c.args.context.now in
    let fs = signatures_in c.args.context.now.functions.now in
    let g = name_at x c.args.function in
    let found = ap (types_named g) (functions_with fs (scope_names c.args.context.now.names.now)) ∙ ap (λ (n : Name). types_named n fs) (sym c.name_of.ensures) ∙ c.in-Some.ensures.found in
    let from = c.in_ok-clone_in.ensures.same ∙ c.from.ensures in
    suited_last x (types_around c.args.context.now) c.args.id _ c.requires.there
    (λ a. IsMade (called_kind _ _ a)) _ _ (called_wants _ _) (ap (λ (t : Kind). Some (Exactly t)) from) _ c.spot.ensures _ (λ d h. called_differs c.in_ok-given.ensures.ok found h) _ c.suited.ensures.err
