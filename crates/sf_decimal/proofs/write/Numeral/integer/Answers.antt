use Rattle.std.proofs.Common.{◌∙◌, length, ap, arith, w64}
use Rattle.std.specs.Fmt.{signed_decimal}
use Rattle.std.proofs.lemmas.Int.{to_z-of_z}
use Rattle.sf_decimal.proofs.Numbers.{integer_is}
use Rattle.sf_decimal.proofs.write.Numeral.integer.Goals as goal

pub returns : goal.returns
returns c = record {
  text = c.as_bytes.ensures.value ∙ c.format.ensures.text ∙ ap signed_decimal (to_z-of_z w64 c.args.n c.ranges.n) ∙ integer_is c.args.n c.ranges.n;
  short = omega (arith, ap length c.as_bytes.ensures.value, c.format.ensures.fits);
}
