use Rattle.sf_engine.specs.Saving.{saved_nothing, has_no_place, saved_no_memory, saves}
use Rattle.sf_engine.proofs.Going.{no_history, some_started}
use Rattle.sf_engine.proofs.Saving.{no_place}
use Rattle.sf_engine.proofs.engine.Engine.save.Goals as goal

pub returns-then-not-is_started-clause-running : goal.returns-then-not-is_started-clause-running
returns-then-not-is_started-clause-running g c = λ n m L S R. saved_nothing (no_history _ L c.if-not-is_started.true (c.is_started.ensures.history n m L S R)) R

pub returns-then-not-has_place-clause-running : goal.returns-then-not-has_place-clause-running
returns-then-not-has_place-clause-running g c = λ n m L S R.
    has_no_place (some_started _ L c.if-not-is_started.false (c.is_started.ensures.history n m L S R)) (no_place c.args.name.now S _ c.if-not-has_place.true (c.has_place.ensures n m L S R)) R

pub returns-in-Ok-clause-running : goal.returns-in-Ok-clause-running
returns-in-Ok-clause-running g c = λ n m L S R.
    saves (some_started _ L c.if-not-is_started.false (c.is_started.ensures.history n m L S R)) ((c.has_place.ensures n m L S R).0 c.if-not-has_place.false) (c.in-Ok.ensures.kept n m L S R)

pub returns-in-Err-clause-running : goal.returns-in-Err-clause-running
returns-in-Err-clause-running g c = λ n m L S R.
    saved_no_memory (some_started _ L c.if-not-is_started.false (c.is_started.ensures.history n m L S R)) ((c.has_place.ensures n m L S R).0 c.if-not-has_place.false) (c.in-Err.ensures.unchanged n m L S R)
