use Rattle.std.proofs.Common.{◌+◌, length, take, refl, arith}
use Rattle.std.proofs.lemmas.List.{take_all}
use Rattle.sf_player.proofs.Steps.{line_within, whole_within, plays_line, line_further, whole_further, line_halts, part_further, refusal_halts}
use Rattle.sf_player.proofs.player.Player.advance.Goals as goal

pub play_line-requires : goal.play_line-requires
play_line-requires g c =
    let w = c.requires in
    let sizes = rw c.in-Ok-Whole.field-0-is at c.in-Ok-Whole.ensures.sizes in
    record {
      n = w.n;
      m = w.m;
      now = w.played.now;
      at = record { runs = w.played.at.runs; slow = w.played.at.slow; slow_saves = w.played.at.slow_saves; taken = w.played.at.taken; probes = w.played.at.probes };
      within = whole_within c.in-Ok-Whole.line.now w.played sizes.1;
    }

pub returns-in-None-clause-advances : goal.returns-in-None-clause-advances
returns-in-None-clause-advances g c = λ probes n m read written P.
    let line = c.in-Ok-Whole.line.now in
    let sizes = rw c.in-Ok-Whole.field-0-is at c.in-Ok-Whole.ensures.sizes in
    let stands = rw c.in-Ok-Whole.field-0-is at (c.in-Ok-Whole.ensures.cuts read P.lines P.stands) in
    let goes = c.in-None.ensures n m P.now (record { runs = P.at.runs; slow = P.at.slow; slow_saves = P.at.slow_saves; taken = P.at.taken; probes = P.at.probes }) in
    record {
      played = plays_line (take (length line + 1) c.args.piece.now) P stands goes refl;
      further = whole_further c.args.piece.now line sizes.1 sizes.0 goes.cutter;
    }

pub returns-in-Some-clause-advances : goal.returns-in-Some-clause-advances
returns-in-Some-clause-advances g c = λ probes n m read written P.
    let stands = rw c.in-Ok-Whole.field-0-is at (c.in-Ok-Whole.ensures.cuts read P.lines P.stands) in
    let ends = c.in-Some.ensures n m P.now (record { runs = P.at.runs; slow = P.at.slow; slow_saves = P.at.slow_saves; taken = P.at.taken; probes = P.at.probes }) in
    line_halts c.args.piece.now (length c.in-Ok-Whole.line.now + 1) P stands ends refl

pub play_line-requires-in-Ok-Line : goal.play_line-requires-in-Ok-Line
play_line-requires-in-Ok-Line g c =
    let w = c.requires in
    let sizes = rw c.in-Ok-Line.field-0-is at c.in-Ok-Line.ensures.sizes in
    record {
      n = w.n;
      m = w.m;
      now = w.played.now;
      at = record { runs = w.played.at.runs; slow = w.played.at.slow; slow_saves = w.played.at.slow_saves; taken = w.played.at.taken; probes = w.played.at.probes };
      within = line_within w.played sizes.2;
    }

pub returns-in-None-play_line-clause-advances : goal.returns-in-None-play_line-clause-advances
returns-in-None-play_line-clause-advances g c = λ probes n m read written P.
    let sizes = rw c.in-Ok-Line.field-0-is at c.in-Ok-Line.ensures.sizes in
    let stands = rw c.in-Ok-Line.field-0-is at (c.in-Ok-Line.ensures.cuts read P.lines P.stands) in
    let goes = c.in-None-play_line.ensures n m P.now (record { runs = P.at.runs; slow = P.at.slow; slow_saves = P.at.slow_saves; taken = P.at.taken; probes = P.at.probes }) in
    record {
      played = plays_line (take c.in-Ok-Line.used c.args.piece.now) P stands goes refl;
      further = line_further c.args.piece.now sizes.2 sizes.1 goes.cutter;
    }

pub returns-in-Some-play_line-clause-advances : goal.returns-in-Some-play_line-clause-advances
returns-in-Some-play_line-clause-advances g c = λ probes n m read written P.
    let stands = rw c.in-Ok-Line.field-0-is at (c.in-Ok-Line.ensures.cuts read P.lines P.stands) in
    let ends = c.in-Some-play_line.ensures n m P.now (record { runs = P.at.runs; slow = P.at.slow; slow_saves = P.at.slow_saves; taken = P.at.taken; probes = P.at.probes }) in
    line_halts c.args.piece.now c.in-Ok-Line.used P stands ends refl

pub returns-in-Ok-Part-clause-advances : goal.returns-in-Ok-Part-clause-advances
returns-in-Ok-Part-clause-advances g c = λ probes n m read written P.
    let piece = c.args.piece.now in
    let sizes = rw c.in-Ok-Part.field-0-is at c.in-Ok-Part.ensures.sizes in
    let stands = rw c.in-Ok-Part.field-0-is at (c.in-Ok-Part.ensures.cuts read P.lines P.stands) in
    rw (take_all (length piece) piece (omega arith)) (record {
      played = record { lines = P.lines; now = P.now; stands = stands; reaches = P.reaches; at = record { runs = P.at.runs; slow = P.at.slow; slow_saves = P.at.slow_saves; taken = P.at.taken; probes = P.at.probes } };
      further = part_further piece sizes;
    })

pub returns-in-Err-clause-advances : goal.returns-in-Err-clause-advances
returns-in-Err-clause-advances g c = λ probes n m read written P.
    refusal_halts c.refuse.result c.args.piece.now P (c.in-Err.ensures.cuts read P.lines P.stands) c.refuse.ensures
