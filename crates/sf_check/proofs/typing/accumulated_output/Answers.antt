use Rattle.std.proofs.Common.{refl, Ok}
use Rattle.sf_expr.proofs.Judged.{answers_same, answers_on, stops_then, goes_then, kind_answers, kind_stops}
use Rattle.sf_mean.specs.Typing.{accumulated_argument}
use Rattle.sf_check.proofs.Judging.{go}
use Rattle.sf_check.proofs.typing.accumulated_output.Goals as goal

pub returns-in_err-argument : goal.returns-in_err-argument
returns-in_err-argument c =
    answers_on _ _ _ c.from_residual-in_err-argument.ensures.1 (goes_then _ _ _ _ c.in_ok-given.ensures (stops_then _ _ _ (kind_stops (accumulated_argument c.args.kind c.in_ok-given.given c.args.input.now) _ refl c.in_err-argument.ensures)))

pub returns-in_err-made : goal.returns-in_err-made
returns-in_err-made c =
    answers_on _ _ _ c.from_residual-in_err-made.ensures.1
    (goes_then _ _ _ _ c.in_ok-given.ensures (goes_then _ _ _ _ (kind_answers (accumulated_argument c.args.kind c.in_ok-given.given c.args.input.now) c.args.spot (Ok c.in_ok-argument.argument) c.in_ok-argument.ensures) (stops_then _ _ _ c.in_err-made.ensures)))

pub returns : goal.returns
returns c =
    answers_same _
    (go _ c.in_ok-given.ensures (go _ (kind_answers (accumulated_argument c.args.kind c.in_ok-given.given c.args.input.now) c.args.spot (Ok c.in_ok-argument.argument) c.in_ok-argument.ensures) (go _ c.in_ok-made.ensures refl)))
    (kind_answers _ _ _ c.accumulated_type.ensures)
