use Rattle.std.proofs.Common.{refl}
use Rattle.sf_player.proofs.Steps.{line_within, last_line, ends_played}
use Rattle.sf_player.proofs.player.Player.finish.Goals as goal

pub play_line-requires : goal.play_line-requires
play_line-requires g c =
    let w = c.requires in
    let sizes = rw c.in-Ok-Line.field-0-is at c.in-Ok-Line.ensures.sizes in
    record {
      n = w.n;
      m = w.m;
      now = w.played.now;
      at = record { runs = w.played.at.runs; slow = w.played.at.slow; slow_saves = w.played.at.slow_saves; taken = w.played.at.taken; probes = w.played.at.probes };
      within = line_within w.played sizes.1;
    }

pub returns-in-Ok-Line : goal.returns-in-Ok-Line
returns-in-Ok-Line g c = λ probes n m read written P.
    let all = rw c.in-Ok-Line.field-0-is at (c.in-Ok-Line.ensures.ends read P.lines P.stands) in
    last_line probes n m read written _ _ c.play_line.new.self c.play_line.result P all.0 refl (c.play_line.ensures n m P.now (record { runs = P.at.runs; slow = P.at.slow; slow_saves = P.at.slow_saves; taken = P.at.taken; probes = P.at.probes }))

pub returns-in-Ok-Part : goal.returns-in-Ok-Part
returns-in-Ok-Part g c = λ probes n m read written P.
    let all = rw c.in-Ok-Part.field-0-is at (c.in-Ok-Part.ensures.ends read P.lines P.stands) in
    ends_played P all.0
