use Rattle.std.proofs.Common.{refl}
use Rattle.sf_player.specs.Stops.{stop_line}
use Rattle.sf_player.specs.Playing.{runs_on, ended, failed, line_of_stop}
use Rattle.sf_player.proofs.Known.{WritesFront-more, WritesFront-behind, Appends-more}
use Rattle.sf_player.proofs.player.Player.write_out.Goals as goal

pub returns-then-not-put-clause-writes : goal.returns-then-not-put-clause-writes
returns-then-not-put-clause-writes g c = failed (WritesFront-more _ _ c.args.self.now.out.items (line_of_stop c.args.stop) (rw c.as_slice.ensures.value at c.if-not-put.ensures.front))

pub returns-in-None-clause-writes : goal.returns-in-None-clause-writes
returns-in-None-clause-writes g c = rw c.in-None.is (runs_on (rw c.as_slice.ensures.value at c.if-not-put.ensures.written) (record { empty = c.clear.ensures.items; cutter = refl; engine = refl; taken = refl; probes = refl }))

pub returns-then-not-put-2-clause-writes : goal.returns-then-not-put-2-clause-writes
returns-then-not-put-2-clause-writes g c = rw c.in-Some.is (failed (WritesFront-behind _ _ _ c.args.self.now.out.items (stop_line c.in-Some.stop) (rw c.as_slice.ensures.value at c.if-not-put.ensures.written) (rw c.line.ensures at (rw c.as_bytes.ensures at c.if-not-put-2.ensures.front))))

pub returns-else-not-put-2-clause-writes : goal.returns-else-not-put-2-clause-writes
returns-else-not-put-2-clause-writes g c = rw (c.in-Some.is, c.end.ensures) (ended (Appends-more _ _ _ c.args.self.now.out.items (stop_line c.in-Some.stop) (rw c.as_slice.ensures.value at c.if-not-put.ensures.written) (rw c.line.ensures at (rw c.as_bytes.ensures at c.if-not-put-2.ensures.written))))
