use Rattle.std.proofs.Common.{IfOk, IfErr}
use mathlib.Core.Path.{subst₂}
use Rattle.sf_expr.specs.declared.exprs.Exprs.{Exprs}
use Rattle.sf_expr.specs.Arena.{function_at}
use Rattle.sf_expr.specs.Typing.{Names, FunctionTakes}
use Rattle.sf_differ.specs.Differences.{Explains}
use Rattle.sf_differ.specs.Differing.{FunctionDiffers}
use Rattle.sf_check.proofs.differing.answer.Goals as goal

pub returns-clause-ok : goal.returns-clause-ok
returns-clause-ok c =
    let under = c.expressions-expressions.ensures in
    subst₂ (λ (x : Exprs) (R : Names). IfOk c.explain_function.result (λ t. FunctionTakes R (function_at x c.args.function) c.args.argument.now t)) under.program under.names c.explain_function.ensures.ok

pub returns-clause-err : goal.returns-clause-err
returns-clause-err c =
    let under = c.expressions-expressions.ensures in
    subst₂ (λ (x : Exprs) (R : Names). IfErr c.explain_function.result (λ b. Explains (FunctionDiffers x R c.args.function c.args.argument.now c.args.spot) b)) under.program under.names c.explain_function.ensures.err
