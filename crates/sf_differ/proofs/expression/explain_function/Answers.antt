use mathlib.Core.Path.{subst₂}
use Rattle.sf_expr.specs.declared.exprs.ExprId.{ExprId}
use Rattle.sf_expr.specs.Patterns.{PlacedPattern}
use Rattle.sf_expr.proofs.Bound.{on_err}
use Rattle.sf_expr.specs.Contexts.{exprs_in, types_around}
use Rattle.sf_differ.specs.Differing.{BoundDiffers}
use Rattle.sf_differ.proofs.Told.{told_as}
use Rattle.sf_differ.proofs.expression.explain_function.Goals as goal

pub returns-clause-err : goal.returns-clause-err
returns-clause-err c =
    on_err c.part_behind.result (λ b h. told_as (λ d k. subst₂ (λ (p : PlacedPattern) (i : ExprId). BoundDiffers (exprs_in c.args.context.now) (types_around c.args.context.now) p i c.args.from.now c.args.at d) c.pattern-pattern.ensures c.body.ensures.value k) h)
    c.part_behind.ensures.err
