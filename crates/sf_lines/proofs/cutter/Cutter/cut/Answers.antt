use Rattle.std.proofs.Common.{rules, arith, length}
use Rattle.std.proofs.lemmas.List.{take_all, length-append}
use Rattle.sf_lines.proofs.cutter.Cutter.cut.Goals as goal

pub returns-then-room-piece : goal.returns-then-room-piece
returns-then-room-piece c =
    let piece = c.args.piece.now in
    let whole = take_all (length piece) piece (omega arith) in
    record {
      some = length piece;
      no_feed = rw whole c.in-None.ensures;
      long = rw (whole, length-append) (grind (arith));
      few = search rules;
    }
