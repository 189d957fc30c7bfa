use Rattle.std.proofs.Common.{◌∙◌, refl, sym, ap}
use mathlib.Core.Path.{ap₂}
use Rattle.std.specs.Prelude.{Option}
use Rattle.sf_value.specs.Values.{Name}
use Rattle.sf_refusal.specs.declared.spot.Spot.{Spot}
use Rattle.sf_func.specs.Registries.{FunctionTypes, types_named}
use Rattle.sf_func.specs.Signatures.{signatures_in}
use Rattle.sf_expr.specs.declared.exprs.ExprNode.{ExprNode}
use Rattle.sf_expr.specs.Arena.{name_at, spot_at}
use Rattle.sf_expr.specs.Typing.{named_in, functions_of, names_and_functions}
use Rattle.sf_expr.specs.Scopes.{scope_names, frame_entries, entries_around}
use Rattle.sf_expr.specs.Judging.{◌>>=◌, naming_at, calling_at, form_judged, judged, Judge}
use Rattle.sf_expr.proofs.Bound.{functions_with, binds_with, bound_within}
use Rattle.sf_expr.proofs.Naming.{named_with}
use Rattle.sf_expr.proofs.Judged.{judged_form, answers_same, answers_on, goes_then, stops_then, kind_stops, binds_binding}
use Rattle.sf_expr.proofs.typing.+judge.Goals as goal

pub judge-returns : goal.judge-returns
judge-returns t c =
    let x = c.args.context.now.exprs.now in
    let R = names_and_functions (signatures_in c.args.context.now.functions.now) (scope_names c.args.context.now.names.now) in
    answers_same _ (ap (λ (j : Judge). j R) (judged_form x c.args.id) ∙ ap (λ (n : ExprNode). form_judged x (judged x) (spot_at x c.args.id) n R) (sym c.node-node.ensures.value)) c.judge_form.ensures

pub judge_form-returns-in-Name : goal.judge_form-returns-in-Name
judge_form-returns-in-Name t c =
    let x = c.args.context.now.exprs.now in
    let R = scope_names c.args.context.now.names.now in
    let fs = signatures_in c.args.context.now.functions.now in
    let found = named_with fs (name_at x c.in-Name.name) R ∙ ap (λ (y : Name). named_in y R) (sym c.name_of.ensures) in
    answers_same _ (ap (λ (n : ExprNode). form_judged x (judged x) (spot_at x c.args.id) n (names_and_functions fs R)) c.in-Name.is ∙ ap₂ naming_at (sym c.spot-in-Name.ensures) found) c.name_type.ensures

pub judge_form-returns-in_ok-part-in-Called : goal.judge_form-returns-in_ok-part-in-Called
judge_form-returns-in_ok-part-in-Called t c =
    let x = c.args.context.now.exprs.now in
    let R = scope_names c.args.context.now.names.now in
    let fs = signatures_in c.args.context.now.functions.now in
    let g = name_at x c.in-Called.function in
    let found = ap (types_named g) (functions_with fs R) ∙ ap (λ (n : Name). types_named n fs) (sym c.name_of-name.ensures) in
    answers_same _ (ap (λ (n : ExprNode). form_judged x (judged x) (spot_at x c.args.id) n (names_and_functions fs R)) c.in-Called.is
    ∙ ap (λ j. j >>= calling_at c.in-Called.place (spot_at x c.args.id) (types_named g (functions_of (names_and_functions fs R)))) c.in_ok-part-in-Called.ensures
    ∙ ap₂ (λ (s : Spot) (o : Option FunctionTypes). calling_at c.in-Called.place s o c.in_ok-part-in-Called.part) (sym c.spot-in-Called.ensures) found) c.call_type.ensures

pub judge_mapped-returns-in_err-argument : goal.judge_mapped-returns-in_err-argument
judge_mapped-returns-in_err-argument t c =
    answers_on _ _ _ c.from_residual-in_err-argument.ensures.1 (goes_then _ _ _ _ c.in_ok-part.ensures (stops_then _ _ _ (kind_stops _ _ c.spot-at.ensures c.in_err-argument.ensures)))

pub judge_folded-returns-in_err-argument : goal.judge_folded-returns-in_err-argument
judge_folded-returns-in_err-argument t c =
    answers_on _ _ _ c.from_residual-in_err-argument.ensures.1
    (goes_then _ _ _ _ c.in_ok-first.ensures (goes_then _ _ _ _ c.in_ok-second.ensures (stops_then _ _ _ (kind_stops _ _ c.spot-at.ensures c.in_err-argument.ensures))))

pub judge_part-returns-clause-judged : goal.judge_part-returns-clause-judged
judge_part-returns-clause-judged t c =
    let bound = bound_within (frame_entries c.in_ok-frame.frame) (entries_around c.args.context.now.names.now) _ refl c.in_ok-frame.ensures.bound in
    answers_same _ (ap (λ j. j >>= judged c.args.context.now.exprs.now c.args.body) (binds_binding c.args.at c.args.pattern.now (binds_with (signatures_in c.args.context.now.functions.now) bound))) c.judge_within.ensures
