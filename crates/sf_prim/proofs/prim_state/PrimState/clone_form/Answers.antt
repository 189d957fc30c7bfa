use Rattle.std.proofs.Common.{ap, ◌∙◌}
use Rattle.sf_prim.proofs.Linked.{fused_follows}
use Rattle.sf_prim.proofs.Primitives.{arrow_follows, closed_follows, accumulated_follows, timer_follows, ticker_follows, line_follows}
use Rattle.sf_prim.proofs.prim_state.PrimState.clone_form.Goals as goal

pub returns-in_ok-shared-in-Arrow : goal.returns-in_ok-shared-in-Arrow
returns-in_ok-shared-in-Arrow c = λ q scope L k. arrow_follows c.in-Arrow.code _ c.in_ok-shared-in-Arrow.ensures.cases q scope L (rw c.in-Arrow.is at k)

pub returns-in_ok-copy-in-Accumulated : goal.returns-in_ok-copy-in-Accumulated
returns-in_ok-copy-in-Accumulated c = λ q scope L k.
    let is = c.in_ok-copy-in-Accumulated.ensures.ok in
    let kept = rw c.deref.ensures at c.in_ok-kept-in-Accumulated.ensures in
    accumulated_follows c.in-Accumulated.accumulator c.in_ok-copy-in-Accumulated.copy (ap (λ a. a.form) is ∙ kept.form) (λ s f h. rw is (kept.closure s f h)) (ap (λ a. a.value) is ∙ kept.value) q scope L (rw c.in-Accumulated.is at k)

pub returns-in_ok-copy-in-Timed : goal.returns-in_ok-copy-in-Timed
returns-in_ok-copy-in-Timed c = λ q scope L k.
    let is = c.in_ok-copy-in-Timed.ensures.ok in
    let kept = rw c.deref-in-Timed.ensures at c.in_ok-kept-in-Timed.ensures in
    timer_follows c.in-Timed.timer c.in_ok-copy-in-Timed.copy (rw is kept) q scope L (rw c.in-Timed.is at k)

pub returns-in_ok-copy-in-Ticked : goal.returns-in_ok-copy-in-Ticked
returns-in_ok-copy-in-Ticked c = λ q scope L k.
    let is = c.in_ok-copy-in-Ticked.ensures.ok in
    let kept = rw c.deref-in-Ticked.ensures at c.in_ok-kept-in-Ticked.ensures in
    ticker_follows c.in-Ticked.ticker c.in_ok-copy-in-Ticked.copy (rw is kept) q scope L (rw c.in-Ticked.is at k)

pub returns-in_ok-copy-in-Delayed : goal.returns-in_ok-copy-in-Delayed
returns-in_ok-copy-in-Delayed c = λ q scope L k.
    let is = c.in_ok-copy-in-Delayed.ensures.ok in
    let kept = rw c.deref-in-Delayed.ensures at c.in_ok-kept-in-Delayed.ensures in
    line_follows c.in-Delayed.line c.in_ok-copy-in-Delayed.copy (rw is kept) q scope L (rw c.in-Delayed.is at k)

pub returns-in_ok-same-in-Fused : goal.returns-in_ok-same-in-Fused
returns-in_ok-same-in-Fused c = λ q scope L k. fused_follows c.in-Fused.links _ c.in_ok-same-in-Fused.ensures.cases q scope L (rw c.in-Fused.is at k)

pub returns-in_ok-same-in-Closed : goal.returns-in_ok-same-in-Closed
returns-in_ok-same-in-Closed c = λ q scope L k. closed_follows c.in-Closed.closure _ c.in_ok-same-in-Closed.ensures.cases q scope L (rw c.in-Closed.is at k)
