use Rattle.std.proofs.Common.{◌∙◌, ap, sym, subst}
use Rattle.sf_refusal.specs.Refusals.{OrMemory}
use Rattle.sf_expr.specs.Patterns.{PlacedPattern}
use Rattle.sf_expr.specs.declared.exprs.Exprs.{Exprs}
use Rattle.sf_expr.specs.Arena.{stored_pattern}
use Rattle.sf_expr.specs.Refusals.{PatternRefused}
use Rattle.sf_differ.specs.Differences.{Explains}
use Rattle.sf_differ.specs.Differing.{PatternDiffers}
use Rattle.sf_check.proofs.differing.bound.Goals as goal

pub returns-in-Err-clause-err : goal.returns-in-Err-clause-err
returns-in-Err-clause-err c =
    let same = c.placed-placed.ensures ∙ ap (λ (x : Exprs). stored_pattern x c.args.pattern) c.expressions.ensures in
    subst (λ (p : PlacedPattern). Explains (PatternDiffers p c.args.ty.now c.args.spot) c.pattern_blame.result) same
    (c.pattern_blame.ensures c.args.spot (subst (λ (p : PlacedPattern). OrMemory (PatternRefused p c.args.ty.now c.args.spot) c.in-Err.refusal) (sym same) c.in-Err.ensures.refused))
