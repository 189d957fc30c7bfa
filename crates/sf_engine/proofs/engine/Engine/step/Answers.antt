use Rattle.std.proofs.Common.{sym, subst}
use Rattle.sf_engine.specs.Sampling.{Advances, was_not_started, has_bad_wait, has_wrong_type, advances}
use Rattle.sf_engine.proofs.Going.{no_history, some_started, some_last, takes_none, takes_some, wait_at, no_wait_at, answered}
use Rattle.sf_engine.proofs.engine.Engine.step.Goals as goal

pub returns-then-not-is_started-clause-running : goal.returns-then-not-is_started-clause-running
returns-then-not-is_started-clause-running g c = λ n m L S R.
    was_not_started (no_history _ L c.if-not-is_started.true (c.is_started.ensures.history n m L S R)) R

pub returns-then-not-can_wait-clause-running : goal.returns-then-not-can_wait-clause-running
returns-then-not-can_wait-clause-running g c = λ n m L S R.
    has_bad_wait (some_started _ L c.if-not-is_started.false (c.is_started.ensures.history n m L S R)) (no_wait_at _ R c.if-not-can_wait.true c.can_wait.ensures) R

pub returns-then-not-takes-clause-running : goal.returns-then-not-takes-clause-running
returns-then-not-takes-clause-running g c = λ n m L S R.
    has_wrong_type
    (some_started _ L c.if-not-is_started.false (c.is_started.ensures.history n m L S R))
    (wait_at R (c.can_wait.ensures.0 c.if-not-can_wait.false))
    (takes_none c.args.value _ R.input c.if-not-takes.true c.takes.ensures)
    R

pub next_sample-requires : goal.next_sample-requires
next_sample-requires g c = record {
  goes_on = c.in_default.is;
  begun = some_last _ _ c.if-not-is_started.false c.is_started.ensures.input;
  wait = c.can_wait.ensures.0 c.if-not-can_wait.false;
  typed = c.takes.ensures.0 c.if-not-takes.false;
}

pub returns-clause-running : goal.returns-clause-running
returns-clause-running g c = λ n m L S R.
    subst (λ r. Advances n m L S c.args.dt c.args.value r c.next_sample.new.self) (sym (answered c.next_sample.result _ c.map_err.ensures.cases))
    (advances
    (some_started _ L c.if-not-is_started.false (c.is_started.ensures.history n m L S R))
    (wait_at R (c.can_wait.ensures.0 c.if-not-can_wait.false))
    (takes_some c.args.value _ R.input c.if-not-takes.false c.takes.ensures)
    (c.next_sample.ensures n m L S R))
