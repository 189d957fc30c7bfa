use Rattle.std.proofs.Common.{◌≡◌, length, length-take-le, take, refl, ap, ◌∙◌, rules, arith}
use Rattle.sf_player.proofs.Steps.{weight_bound}
use Rattle.sf_player.proofs.Running.{starts_running, runs_further, comes_further, told_midway, end_by, told_at_end_by, told_read_fault, ends_ahead, not_done, reads_kept}
use Rattle.sf_player.proofs.session.run.Goals as goal

pub loop-size-init : goal.loop-size-init
loop-size-init g c = record { running = λ probes n m P. starts_running _ _ P c.requires.fresh.empty; reads = refl; writes = refl }

pub returns-in_default-clause-told : goal.returns-in_default-clause-told
returns-in_default-clause-told g c = λ probes n m P. told_read_fault (c.loop-size.invariant.running probes n m P) c.in_default.ensures.kept

pub finish-stop-requires : goal.finish-stop-requires
finish-stop-requires g c =
    let w = c.requires.fresh in
    let R = c.loop-size.invariant.running w.probes w.n w.m w.played in
    record { probes = w.probes; n = w.n; m = w.m; read = R.read; written = R.written; played = R.played }

pub returns-in-Some-write_out-clause-told : goal.returns-in-Some-write_out-clause-told
returns-in-Some-write_out-clause-told g c = λ probes n m P.
    let R = c.loop-size.invariant.running probes n m P in
    let took = rw c.if-size-eq0.true at c.in-Some.ensures.bytes in
    told_at_end_by c.finish-stop.result _ R took (c.in-Some.ensures.end c.if-size-eq0.true (search rules)) (c.finish-stop.ensures probes n m R.read R.written R.played) c.write_out.ensures.writes (ap end_by c.in-Some-write_out.is)

pub returns-in-Some-write_out-clause-reader : goal.returns-in-Some-write_out-clause-reader
returns-in-Some-write_out-clause-reader g c = reads_kept _ _ (ends_ahead c.write_out.ensures.writes c.in-Some-write_out.is) (search rules)

pub returns-then-size-eq0-clause-told : goal.returns-then-size-eq0-clause-told
returns-then-size-eq0-clause-told g c = λ probes n m P.
    let R = c.loop-size.invariant.running probes n m P in
    let took = rw c.if-size-eq0.true at c.in-Some.ensures.bytes in
    told_at_end_by c.finish-stop.result _ R took (c.in-Some.ensures.end c.if-size-eq0.true (search rules)) (c.finish-stop.ensures probes n m R.read R.written R.played) c.write_out.ensures.writes (ap end_by c.in_default-write_out.is)

pub feed-stop-requires : goal.feed-stop-requires
feed-stop-requires g c =
    let w = c.requires.fresh in
    let R = c.loop-size.invariant.running w.probes w.n w.m w.played in
    record { probes = w.probes; n = w.n; m = w.m; read = R.read; written = R.written; played = R.played }

pub returns-in-Some-write_out-2-clause-told : goal.returns-in-Some-write_out-2-clause-told
returns-in-Some-write_out-2-clause-told g c = λ probes n m P.
    let R = c.loop-size.invariant.running probes n m P in
    told_midway _ c.feed-stop.result _ R c.in-Some.ensures.bytes (c.feed-stop.ensures probes n m R.read R.written R.played) c.write_out-in-loop-size.ensures.writes c.in-Some-write_out-2.is

pub returns-in-Some-write_out-2-clause-end : goal.returns-in-Some-write_out-2-clause-end
returns-in-Some-write_out-2-clause-end g c = λ q. absurd (not_done (ends_ahead c.write_out-in-loop-size.ensures.writes c.in-Some-write_out-2.is) q)

pub returns-in-Some-write_out-2-clause-reader : goal.returns-in-Some-write_out-2-clause-reader
returns-in-Some-write_out-2-clause-reader g c = reads_kept _ _ (ends_ahead c.write_out-in-loop-size.ensures.writes c.in-Some-write_out-2.is) (search rules)

pub loop-size-preserved : goal.loop-size-preserved
loop-size-preserved g c = record {
  running = λ probes n m P.
      let R = c.loop-size.invariant.running probes n m P in
      runs_further _ c.feed-stop.result R c.in-Some.ensures.bytes (c.feed-stop.ensures probes n m R.read R.written R.played) c.write_out-in-loop-size.ensures.writes c.in_default-write_out-2.is;
  reads = search rules;
  writes = c.in_default-write_out-2.ensures.failures ∙ c.loop-size.invariant.writes;
}

pub loop-size-smaller : goal.loop-size-smaller
loop-size-smaller g c =
    let w = c.requires.fresh in
    let R = c.loop-size.invariant.running w.probes w.n w.m w.played in
    let further = comes_further w.probes w.n w.m R.read R.written c.loop-size.player _ c.feed-stop.result (c.feed-stop.ensures w.probes w.n w.m R.read R.written R.played) c.write_out-in-loop-size.ensures.writes c.in_default-write_out-2.is in
    let size : length (take c.in-Some.size c.read_some.new.buf) ≡ c.in-Some.size = length-take-le c.in-Some.size c.read_some.new.buf c.in-Some.ensures.bound in
    let bound = weight_bound c.write_out-in-loop-size.new.self.cutter in
    let some = c.if-size-eq0.false in
    omega arith
