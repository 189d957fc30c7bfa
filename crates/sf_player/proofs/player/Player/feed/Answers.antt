use Rattle.std.proofs.Common.{◌++◌, arith, rules, sym, take}
use Rattle.std.proofs.lemmas.List.{take_all}
use Rattle.sf_player.proofs.Steps.{PlayedMore-none, PlayedMore-more, Halted-more}
use Rattle.sf_player.proofs.player.Player.feed.Goals as goal

pub loop-at-init : goal.loop-at-init
loop-at-init g c = record { within = omega arith; more = λ probes n m read written P. PlayedMore-none P }

pub advance-requires : goal.advance-requires
advance-requires g c =
    let w = c.requires in
    record { probes = w.probes; n = w.n; m = w.m; read = w.read ++ take c.loop-at.at c.args.piece.now; written = w.written; played = (c.loop-at.invariant.more w.probes w.n w.m w.read w.written w.played).played }

pub loop-at-preserved : goal.loop-at-preserved
loop-at-preserved g c = record {
  within = search rules;
  more = λ probes n m read written P.
      let so_far = c.loop-at.invariant.more probes n m read written P in
      PlayedMore-more read c.args.piece.now c.loop-at.at c.in-Ok.used so_far (c.in-Ok.ensures.advances probes n m (read ++ take c.loop-at.at c.args.piece.now) written so_far.played);
}

pub returns-in-Err : goal.returns-in-Err
returns-in-Err g c = λ probes n m read written P.
    let so_far = c.loop-at.invariant.more probes n m read written P in
    Halted-more c.in-Err.stop (written ++ c.advance.new.self.out.items) read c.args.piece.now c.loop-at.at (c.in-Err.ensures.advances probes n m (read ++ take c.loop-at.at c.args.piece.now) written so_far.played)

pub returns : goal.returns
returns g c = λ probes n m read written P. rw (sym (take_all c.loop-at.at c.args.piece.now (omega arith))) (c.loop-at.invariant.more probes n m read written P)
