use Rattle.sf_engine.specs.Sampling.{was_started, has_wrong_type}
use Rattle.sf_engine.proofs.Going.{no_history, some_started, has_no_type}
use Rattle.sf_engine.proofs.engine.Engine.look_at_start.Goals as goal

pub returns-then-not-has_type-clause-running : goal.returns-then-not-has_type-clause-running
returns-then-not-has_type-clause-running g c = λ n m L S R.
    has_wrong_type (no_history _ L c.if-is_started.false (c.is_started.ensures.history n m L S R)) (has_no_type _ R.input c.if-not-has_type.true c.has_type.ensures) R

pub returns-then-is_started-clause-running : goal.returns-then-is_started-clause-running
returns-then-is_started-clause-running g c = λ n m L S R. was_started (some_started _ L c.if-is_started.true (c.is_started.ensures.history n m L S R)) R
