use Rattle.std.proofs.Common.{◌≡◌, true, false, sym, ◌∙◌, ap}
use Rattle.sf_expr.specs.Arena.{function_at}
use Rattle.sf_term.specs.Arena.{program_function}
use Rattle.sf_term.proofs.Extended.{function_at_in}
use Rattle.sf_rewrite.specs.Quiet
use Rattle.sf_optimise.proofs.quietness.+quiet.Goals as goal

pub returns-then-is_quiet_function : goal.returns-then-is_quiet_function
returns-then-is_quiet_function t c =
    let p = c.args.program.now in
    let f = c.in-Transformed.function in
    let first : Quiet.is_quiet_function (program_function p f) ≡ true =
    ap Quiet.is_quiet_function (sym (function_at_in p f)) ∙ ap (λ x. Quiet.is_quiet_function (function_at x f)) (sym c.expressions-in-Transformed.ensures) ∙ sym c.is_quiet_function.ensures ∙ c.if-is_quiet_function.true in
    rw (c.node.ensures.builds, c.in-Transformed.is, first) c.quiet-then-is_quiet_function.ensures

pub returns-else-is_quiet_function : goal.returns-else-is_quiet_function
returns-else-is_quiet_function t c =
    let p = c.args.program.now in
    let f = c.in-Transformed.function in
    let first : Quiet.is_quiet_function (program_function p f) ≡ false =
    ap Quiet.is_quiet_function (sym (function_at_in p f)) ∙ ap (λ x. Quiet.is_quiet_function (function_at x f)) (sym c.expressions-in-Transformed.ensures) ∙ sym c.is_quiet_function.ensures ∙ c.if-is_quiet_function.false in
    rw (c.node.ensures.builds, c.in-Transformed.is, first) c.if-is_quiet_function.false
