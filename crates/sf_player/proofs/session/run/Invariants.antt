use Rattle.std.proofs.Common.{Bool, ◌-◌, ◌*◌, ◌≡◌, []}
use Rattle.sf_term.specs.Trees.{Template}
use Rattle.sf_mean.specs.Meaning.{Network}
use Rattle.sf_player.specs.Playing.{Played, weight}
use Rattle.sf_player.proofs.Running.{Running}
use Rattle.sf_player.proofs.session.run.Given as goal

abbrev pub invariant-loop-size : goal.invariant-loop-size
invariant-loop-size g l = record {
  running : (probes : Bool) (n : Network) (m : Template) → Played probes n m [] [] l.fn.player → Running probes n m (g.R.Read.remaining l.fn.reader.inner) (g.R.Read.remaining l.reader.inner) (g.W.Write.contents l.fn.writer.inner) (g.W.Write.contents l.writer.inner) l.player;
  reads : l.reader.failures ≡ l.fn.reader.failures;
  writes : l.writer.failures ≡ l.fn.writer.failures;
}

abbrev pub decreases-loop-size : goal.decreases-loop-size
decreases-loop-size g l = 65537 * 1000001 - weight l.player.cutter
