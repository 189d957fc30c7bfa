use Rattle.std.proofs.Common.{refl, sym}
use Rattle.sf_engine.specs.Saving.{returned_nowhere, has_no_save, returned_no_memory, returns_to}
use Rattle.sf_engine.proofs.Going.{no_history, some_started, runs_on}
use Rattle.sf_engine.proofs.Saving.{finds_some, finds_none}
use Rattle.sf_engine.proofs.engine.Engine.back.Goals as goal

pub returns-then-not-is_started-clause-running : goal.returns-then-not-is_started-clause-running
returns-then-not-is_started-clause-running g c = λ n m L S R. returned_nowhere (no_history _ L c.if-not-is_started.true (c.is_started.ensures.history n m L S R)) R

pub returns-in_default-get-clause-running : goal.returns-in_default-get-clause-running
returns-in_default-get-clause-running g c = λ n m L S R.
    has_no_save (some_started _ L c.if-not-is_started.false (c.is_started.ensures.history n m L S R)) (finds_none R c.args.name.now c.in_default-get.ensures.value) R

pub returns-in_default-share-clause-running : goal.returns-in_default-share-clause-running
returns-in_default-share-clause-running g c = λ n m L S R.
    returned_no_memory (some_started _ L c.if-not-is_started.false (c.is_started.ensures.history n m L S R)) (finds_some R c.args.name.now _ c.in-Some-get.ensures.value).found R

pub returns-clause-running : goal.returns-clause-running
returns-clause-running g c = λ n m L S R.
    let found = finds_some R c.args.name.now _ c.in-Some-get.ensures.value in
    let copy = c.in-Ok.ensures _ m found.life found.save in
    returns_to (some_started _ L c.if-not-is_started.false (c.is_started.ensures.history n m L S R)) found.found
    (runs_on R refl refl refl refl copy.state copy.time (sym copy.last) copy.history R.saves)
