use Rattle.std.proofs.Common.{sym}
use mathlib.Core.Path.{ap₂}
use Rattle.sf_expr.specs.declared.exprs.Exprs.{Exprs}
use Rattle.sf_expr.specs.Typing.{Names}
use Rattle.sf_expr.specs.Judging.{function_judged}
use Rattle.sf_expr.proofs.Judged.{answers_same}
use Rattle.sf_check.proofs.typing.answer_type.Goals as goal

pub returns : goal.returns
returns c =
    let under = c.expressions-expressions.ensures in
    answers_same _ (ap₂ (λ (x : Exprs) (R : Names). function_judged x c.args.function c.args.spot c.args.argument.now R) (sym under.program) (sym under.names)) c.function_type.ensures.judged
