use Rattle.std.proofs.Common.{ap, subst, sym, ◌∙◌, Ok}
use Rattle.sf_refusal.specs.declared.spot.Spot.{Spot}
use Rattle.sf_refusal.specs.declared.rule.Rule.TheVariants.{Mismatch}
use Rattle.sf_operator.specs.Kinds.{same_kind}
use Rattle.sf_expr.specs.Judging.{Stops}
use Rattle.sf_expr.proofs.Judged.{answers_on, stops_then, goes_then, fits_at}
use Rattle.sf_check.specs.Judging.{asked, judged_process}
use Rattle.sf_check.proofs.Judging.{go, agreed}
use Rattle.sf_check.proofs.typing.process_output.Goals as goal

pub returns-in_err-process : goal.returns-in_err-process
returns-in_err-process c = λ start. answers_on _ _ _ c.from_residual.ensures.1 (stops_then _ _ _ c.in_err-process.ensures.stops)

pub returns-in_err-agree : goal.returns-in_err-agree
returns-in_err-agree c = λ start.
    answers_on _ _ _ c.from_residual-in_err-agree.ensures.1
    (goes_then _ _ _ _ (ap (judged_process c.args.place) c.in_ok-process.ensures.found) (stops_then _ _ _ (subst (λ (s : Spot). Stops c.in_err-agree.field-0.0 (asked Mismatch s (same_kind c.args.input.now c.in_ok-process.process.from.now))) c.spot.ensures c.in_err-agree.ensures)))

pub returns : goal.returns
returns c = λ start.
    let same = c.in_ok-clone_in.ensures.same in
    go _ (ap (judged_process c.args.place) c.in_ok-process.ensures.found) (go _ (agreed Mismatch _ _ (same_kind c.args.input.now c.in_ok-process.process.from.now) c.in_ok-agree.ensures) (fits_at _ _ c.in_ok-clone_in.ensures.small ∙ ap Ok (sym same)))
