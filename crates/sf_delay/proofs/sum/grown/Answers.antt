use Rattle.std.proofs.Common.{refl, subst, arith, w64, ◌∙◌}
use Rattle.std.proofs.lemmas.Int.{to_z-of_z}
use Rattle.sf_operator.specs.Outcomes.{tested}
use Rattle.sf_operator.specs.Answers.{Computes}
use Rattle.sf_delay.proofs.Widths.{product_fits, wide_fits, wide_sum}
use Rattle.sf_delay.proofs.sum.grown.Goals as goal

pub overflow_mul-from : goal.overflow_mul-from
overflow_mul-from c =
    let level = c.from-3.ensures ∙ to_z-of_z w64 c.args.level c.ranges.level in
    product_fits c.args.sum c.args.level c.args.dt c.args.sum _ _ c.ranges.sum c.ranges.level (omega (arith, c.ranges.dt)) refl c.from-2.ensures level

pub overflow_add-from : goal.overflow_add-from
overflow_add-from c =
    let sum = c.from.ensures ∙ to_z-of_z w64 c.args.sum c.ranges.sum in
    let level = c.from-3.ensures ∙ to_z-of_z w64 c.args.level c.ranges.level in
    wide_fits c.args.sum c.args.level c.args.dt _ _ _ c.ranges.sum c.ranges.level (omega (arith, c.ranges.dt)) sum c.from-2.ensures level

pub returns : goal.returns
returns c =
    let sum = c.from.ensures ∙ to_z-of_z w64 c.args.sum c.ranges.sum in
    let level = c.from-3.ensures ∙ to_z-of_z w64 c.args.level c.ranges.level in
    subst (λ z. Computes c.narrow.result (tested z)) (wide_sum c.args.sum c.args.level c.args.dt _ _ _ c.ranges.sum c.ranges.level (omega (arith, c.ranges.dt)) sum c.from-2.ensures level) c.narrow.ensures
