use Rattle.std.proofs.Common.{arith, to_z, of_z, ◌≡◌, ◌∙◌, ap, subst, false}
use Rattle.std.specs.Prelude.{pos, neg_ℤ, ◌<ℤ◌, ◌-ℤ◌}
use Rattle.std.specs.Int.{int_rem_euclid, w128}
use Rattle.std.specs.Int.Signed.{lt_z}
use Rattle.std.proofs.lemmas.Int.{ints, to_z-of_z}
use Rattle.sf_operator.proofs.Division.{left_below, below_zero}
use Rattle.sf_operator.proofs.arithmetic.remainder.Goals as goal

pub returns-else-right-gt0 : goal.returns-else-right-gt0
returns-else-right-gt0 c =
    let r = c.rem_euclid-else-right-gt0.result in
    let below : c.args.right <ℤ pos 0 = below_zero c.args.right (subst (λ b. lt_z (pos 0) b ≡ false) (to_z-of_z w128 c.args.right c.ranges.right) c.if-right-gt0.false) c.requires.divisor in
    let whole = left_below c.args.left c.args.right below in
    let left : to_z w128 (of_z w128 (pos 0 -ℤ to_z w128 (of_z w128 c.args.left))) ≡ neg_ℤ c.args.left = omega (arith, ints) in
    let right : to_z w128 (of_z w128 (pos 0 -ℤ to_z w128 (of_z w128 c.args.right))) ≡ neg_ℤ c.args.right = omega (arith, ints) in
    let out : to_z w128 (of_z w128 (pos 0 -ℤ to_z w128 (of_z w128 r))) ≡ neg_ℤ r = omega (arith, ints) in
    out ∙ ap neg_ℤ (c.rem_euclid-else-right-gt0.ensures.value ∙ ap (λ a. int_rem_euclid a (to_z w128 (of_z w128 (pos 0 -ℤ to_z w128 (of_z w128 c.args.right))))) left ∙ ap (λ b. int_rem_euclid (neg_ℤ c.args.left) b) right) ∙ whole
