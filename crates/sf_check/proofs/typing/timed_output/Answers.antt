use Rattle.std.proofs.Common.{ap, sym, ◌∙◌, w64}
use Rattle.std.proofs.lemmas.Int.{to_z-of_z}
use Rattle.sf_refusal.specs.declared.rule.Rule.TheVariants.{BadConstant}
use Rattle.sf_expr.proofs.Judged.{answers_same, stops_then, goes_then, stops_broken, kind_answers}
use Rattle.sf_expr.specs.Judging.{◌>>=◌, judged_fitting}
use Rattle.sf_mean.specs.Typing.{takes_time, timed_kind}
use Rattle.sf_check.proofs.Judging.{go, holds, fails}
use Rattle.sf_check.proofs.typing.timed_output.Goals as goal

pub returns-then-not-takes_time : goal.returns-then-not-takes_time
returns-then-not-takes_time c =
    let outside = ap (takes_time c.args.kind) (sym (to_z-of_z w64 c.args.time c.ranges.time)) ∙ sym c.takes_time.ensures ∙ c.if-not-takes_time.true in
    goes_then _ _ _ _ c.in_ok-given.ensures (goes_then _ _ _ _ c.in_ok-takes_input.ensures (stops_then _ _ _ (stops_broken c.broken.ensures (fails BadConstant c.args.spot outside))))

pub returns : goal.returns
returns c =
    let within = ap (takes_time c.args.kind) (sym (to_z-of_z w64 c.args.time c.ranges.time)) ∙ sym c.takes_time.ensures ∙ c.if-not-takes_time.false in
    answers_same _ (go _ c.in_ok-given.ensures (go _ c.in_ok-takes_input.ensures (ap (λ r. r >>= λ k. judged_fitting c.args.spot (timed_kind c.args.kind c.in_ok-given.given)) (holds BadConstant c.args.spot within)))) (kind_answers _ _ _ c.timed_type.ensures)
