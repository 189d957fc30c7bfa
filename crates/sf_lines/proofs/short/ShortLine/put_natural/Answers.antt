use Rattle.std.proofs.Common.{◌^◌, ◌<◌, arith}
use Rattle.sf_lines.proofs.Shorts.{decimal_short, room_before, digits_before, size_before}
use Rattle.sf_lines.proofs.short.ShortLine.put_natural.Goals as goal

pub write_digits-self-inside-requires : goal.write_digits-self-inside-requires
write_digits-self-inside-requires c =
    let small : c.args.n < 2 ^ 64 = omega (arith, c.ranges.n.fits) in
    (omega (arith, decimal_short c.args.n small, room_before c.self.inside.bytes c.args.self.now c.self.inside.start c.self.view_is (omega arith) c.self.invariant c.requires), omega (arith, c.self.invariant))

pub returns-clause-text : goal.returns-clause-text
returns-clause-text c = digits_before c.args.n _ _ _ (omega (arith, c.ranges.n.fits)) c.write_digits-self-inside.ensures.written c.self.view_is

pub returns-clause-size : goal.returns-clause-size
returns-clause-size c = size_before c.args.n _ _ _ (omega (arith, c.ranges.n.fits)) c.write_digits-self-inside.ensures.written c.self.view_is
