use Rattle.std.proofs.Common.{sym, ap, ◌∙◌, Some}
use Rattle.sf_value.specs.Values.{Kind, event_kind}
use Rattle.sf_expr.specs.Arena.{literal_at}
use Rattle.sf_expr.specs.Constants.{constant_literal}
use Rattle.sf_expr.specs.Judging.{judged_fitting}
use Rattle.sf_expr.proofs.Judged.{answers_same, kind_answers}
use Rattle.sf_term.specs.Entries.{absent_payload}
use Rattle.sf_check.proofs.typing.never_output.Goals as goal

pub returns-in-NoEvent : goal.returns-in-NoEvent
returns-in-NoEvent c =
    answers_same _ (ap (λ (t : Kind). judged_fitting c.args.spot (Some (event_kind t))) (sym (ap absent_payload (ap constant_literal (sym c.in-NoEvent.is) ∙ c.form.ensures.form ∙ c.constant_at-constant.ensures ∙ ap (λ x. literal_at x c.args.constant) c.expressions.ensures))))
    (kind_answers _ _ _ c.event_type.ensures)

pub returns-in-Text : goal.returns-in-Text
returns-in-Text c =
    answers_same _
    (ap (λ (t : Kind). judged_fitting c.args.spot (Some (event_kind t))) (sym (c.unit.ensures ∙ ap absent_payload (ap constant_literal (sym c.in-Text.is) ∙ c.form.ensures.form ∙ c.constant_at-constant.ensures ∙ ap (λ x. literal_at x c.args.constant) c.expressions.ensures))))
    (kind_answers _ _ _ c.event_type-in-Text.ensures)
