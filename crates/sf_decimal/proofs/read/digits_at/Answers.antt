use Rattle.std.proofs.Common.{arith, sym, refl, ◌∙◌}
use Rattle.sf_decimal.proofs.Runs.{short_digit, short_fits, short_more}
use Rattle.sf_decimal.proofs.read.digits_at.Goals as goal

pub overflow_mul-number : goal.overflow_mul-number
overflow_mul-number c = omega (arith, (short_digit _ _ _ _ 0 c.loop-len.invariant c.loop-len-test.true (omega arith)).1)

pub overflow_add-number : goal.overflow_add-number
overflow_add-number c =
    omega (arith, short_fits _ _ _ _ c.from.result c.loop-len-test.true (sym c.is_ascii_digit.ensures.value ∙ c.if-is_ascii_digit.true) c.from.ensures c.loop-len.invariant)

pub loop-len-preserved : goal.loop-len-preserved
loop-len-preserved c =
    short_more _ _ _ _ c.from.result _ c.loop-len-test.true (sym c.is_ascii_digit.ensures.value ∙ c.if-is_ascii_digit.true) c.from.ensures refl c.loop-len.invariant
