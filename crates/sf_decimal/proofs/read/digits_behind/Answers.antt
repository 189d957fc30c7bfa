use Rattle.std.proofs.Common.{◌∙◌, sym, refl}
use Rattle.sf_decimal.proofs.Runs.{keeps_more}
use Rattle.sf_decimal.proofs.read.digits_behind.Goals as goal

pub loop-rest-preserved : goal.loop-rest-preserved
loop-rest-preserved c =
    keeps_more c.args.number c.args.bytes.now c.loop-rest.number c.loop-rest.rest.now c.saturating_add-number.result c.in-len1-up.len_at_least
    (sym c.is_ascii_digit.ensures.value ∙ c.if-not-is_ascii_digit.false)
    (c.saturating_add-number.ensures ∙ rw (c.saturating_mul.ensures, c.from.ensures) refl) c.loop-rest.invariant
