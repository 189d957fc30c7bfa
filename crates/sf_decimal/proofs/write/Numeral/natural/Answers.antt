use Rattle.std.proofs.Common.{◌∙◌, length, ap, arith}
use Rattle.sf_decimal.proofs.Numbers.{natural_is}
use Rattle.sf_decimal.proofs.write.Numeral.natural.Goals as goal

pub returns : goal.returns
returns c = record {
  text = c.as_bytes.ensures.value ∙ c.format.ensures.text ∙ natural_is c.args.n (omega (arith, c.ranges.n.fits));
  short = omega (arith, ap length c.as_bytes.ensures.value, c.format.ensures.fits);
}
