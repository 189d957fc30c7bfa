use Rattle.std.proofs.Common.{◌≡◌, true, sym, ◌∙◌, ap}
use Rattle.sf_expr.specs.Arena.{expression, function_at}
use Rattle.sf_term.specs.Arena.{program_expression}
use Rattle.sf_term.proofs.Extended.{expression_in, function_at_in}
use Rattle.sf_rewrite.specs.Quiet
use Rattle.sf_optimise.proofs.quietness.is_quiet_form.Goals as goal

pub returns-in-Arrow : goal.returns-in-Arrow
returns-in-Arrow c =
    let p = c.args.program.now in
    let f = c.in-Arrow.function in
    rw c.in-Arrow.is (c.is_quiet_function.ensures ∙ ap (λ x. Quiet.is_quiet_function (function_at x f)) c.expressions-exprs.ensures ∙ ap Quiet.is_quiet_function (function_at_in p f))

pub returns-then-is_quiet_expression : goal.returns-then-is_quiet_expression
returns-then-is_quiet_expression c =
    let p = c.args.program.now in
    let v = c.in-Accumulated.value in
    let f = c.in-Accumulated.function in
    let first : Quiet.is_quiet_expression (program_expression p v) ≡ true =
    ap Quiet.is_quiet_expression (sym (expression_in p v)) ∙ ap (λ x. Quiet.is_quiet_expression (expression x v)) (sym c.expressions-exprs.ensures) ∙ sym c.is_quiet_expression.ensures ∙ c.if-is_quiet_expression.true in
    rw (c.in-Accumulated.is, first) (c.is_quiet_function-then-is_quiet_expression.ensures ∙ ap (λ x. Quiet.is_quiet_function (function_at x f)) c.expressions-exprs.ensures ∙ ap Quiet.is_quiet_function (function_at_in p f))
