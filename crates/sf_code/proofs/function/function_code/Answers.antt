use Rattle.std.proofs.Common.{◌≡◌, true, ◌∷◌, refl, ap, subst, ◌∙◌}
use Rattle.sf_expr.specs.declared.exprs.ExprId.{ExprId}
use Rattle.sf_expr.specs.Arena.{expression, argument_pattern, body_id}
use Rattle.sf_expr.specs.Patterns.{PlacedPattern, pattern_of}
use Rattle.sf_code.specs.CodeView.{code_of}
use Rattle.sf_code.specs.Compiling.{is_closed, closed_code}
use Rattle.sf_code.specs.Around.{patterns_around}
use Rattle.sf_code.proofs.Worth.{is_code_of_function}
use Rattle.sf_code.proofs.function.function_code.Goals as goal

pub returns-clause-code : goal.returns-clause-code
returns-clause-code c =
    let x = c.args.exprs.now in
    let around = c.in_ok-around.around in
    let own = pattern_of (argument_pattern x c.args.id) in
    let whole = expression x (body_id x c.args.id) in
    let is : c.in_ok-frame.frame.pattern.now ≡ argument_pattern x c.args.id = c.in_ok-frame.ensures ∙ c.pattern-pattern.ensures in
    let closed : is_closed (own ∷ patterns_around x around) whole ≡ true =
    subst (λ (p : PlacedPattern). is_closed (pattern_of p ∷ patterns_around x around) whole ≡ true) is
    (subst (λ (i : ExprId). is_closed (pattern_of c.in_ok-frame.frame.pattern.now ∷ patterns_around x around) (expression x i) ≡ true) c.body-body.ensures.value c.in_ok-around.ensures.closed) in
    let made : code_of c.in_ok-code.code ≡ closed_code (own ∷ patterns_around x around) whole = c.in_ok-code.ensures
    ∙ ap (λ (p : PlacedPattern). closed_code (pattern_of p ∷ patterns_around x around) (expression x c.body-body.result)) is
    ∙ ap (λ (i : ExprId). closed_code (own ∷ patterns_around x around) (expression x i)) c.body-body.ensures.value in
    is_code_of_function x own whole _ (own ∷ patterns_around x around) refl closed made
