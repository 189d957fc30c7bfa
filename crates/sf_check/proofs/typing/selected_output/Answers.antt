use Rattle.std.proofs.Common.{ap, sym, ◌∙◌, w64, refl, Ok}
use Rattle.std.proofs.lemmas.Int.{to_z-of_z}
use Rattle.sf_refusal.specs.declared.rule.Rule.TheVariants.{BadConstant}
use Rattle.sf_expr.proofs.Judged.{answers_on, stops_then, goes_then, stops_broken, kind_answers, kind_stops}
use Rattle.sf_mean.specs.Typing.{takes_number, selected_kind}
use Rattle.sf_check.proofs.Judging.{go, holds, fails}
use Rattle.sf_check.proofs.typing.selected_output.Goals as goal

pub returns-in_err-output : goal.returns-in_err-output
returns-in_err-output c = λ x Γ k. answers_on _ _ _ c.from_residual.ensures.1 (stops_then _ _ _ (kind_stops (selected_kind c.args.input.now) _ refl c.in_err-output.ensures))

pub returns-then-not-takes_number : goal.returns-then-not-takes_number
returns-then-not-takes_number c =
    let outside = ap takes_number (sym (to_z-of_z w64 c.args.count c.ranges.count)) ∙ sym c.takes_number.ensures ∙ c.if-not-takes_number.true in
    λ x Γ k. goes_then _ _ _ _ (kind_answers (selected_kind c.args.input.now) c.args.spot (Ok c.in_ok-output.output) c.in_ok-output.ensures) (stops_then _ _ _ (stops_broken c.broken.ensures (fails BadConstant c.args.spot outside)))

pub returns : goal.returns
returns c =
    let within = ap takes_number (sym (to_z-of_z w64 c.args.count c.ranges.count)) ∙ sym c.takes_number.ensures ∙ c.if-not-takes_number.false in
    λ x Γ k. go _ (kind_answers (selected_kind c.args.input.now) c.args.spot (Ok c.in_ok-output.output) c.in_ok-output.ensures) (go _ (holds BadConstant c.args.spot within) refl)
