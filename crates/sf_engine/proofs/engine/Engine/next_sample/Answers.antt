use Rattle.std.proofs.Common.{sym}
use Rattle.sf_engine.specs.Sampling.{had_no_memory}
use Rattle.sf_engine.proofs.Going.{next_given, next_unchanged}
use Rattle.sf_engine.proofs.engine.Engine.next_sample.Goals.{in-Some, in-None+in-Ok}
use Rattle.sf_engine.proofs.engine.Engine.next_sample.Goals as goal

pub returns-in-Err : goal.returns-in-Err
returns-in-Err g c = λ n m L S R. rw c.stop.ensures.error (had_no_memory c.stop.ensures.stopped)

pub returns : goal.returns
returns g c = λ n m L S R.
    elim c.match-value.branch [
      | in-Some w ↦ next_given R c.requires w.in-Some.is w.input-is (c.sample.ensures n m L S R)
      | in-None+in-Ok w ↦ next_unchanged R c.requires w.in-None.is (rw (sym w.input-is) at w.in-Ok.ensures) (c.sample.ensures n m L S R)
    ]
