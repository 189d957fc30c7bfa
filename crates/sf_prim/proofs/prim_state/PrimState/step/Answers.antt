use Rattle.sf_prim.proofs.Linked.{fused_goes_on}
use Rattle.sf_prim.proofs.Primitives.{identity_goes_on, never_goes_on, constant_goes_on, previous_goes_on, arrow_goes_on, closed_goes_on, accumulated_goes_on, clock_goes_on, area_goes_on, timer_goes_on, ticker_goes_on, line_goes_on, selected_goes_on, edge_goes_on, tagged_goes_on, not_yet_goes_on, count_goes_on, now_goes_on, initially_goes_on, hold_goes_on, hold_before_goes_on}
use Rattle.sf_prim.proofs.prim_state.PrimState.step.Goals as goal

pub returns-in-Identity : goal.returns-in-Identity
returns-in-Identity g c = λ q scope L same k. rw c.in-Identity.is (identity_goes_on q scope _ _ L (rw c.in-Identity.is at k))

pub returns-in-Never : goal.returns-in-Never
returns-in-Never g c = λ q scope L same k. rw c.in-Never.is (never_goes_on q scope _ L _ c.no_event.ensures (rw c.in-Never.is at k))

pub returns-in-Constant : goal.returns-in-Constant
returns-in-Constant g c = λ q scope L same k. constant_goes_on q scope _ L _ _ _ c.copy.ensures.ok c.copy.ensures.err (rw c.in-Constant.is at k)

pub returns-in-Previous : goal.returns-in-Previous
returns-in-Previous g c = λ q scope L same k. rw (c.swap.ensures.x_after, c.swap.ensures.y_after) (previous_goes_on q scope _ _ L _ (rw c.in-Previous.is at k))

pub returns-in-Arrow : goal.returns-in-Arrow
returns-in-Arrow g c = rw c.in-Arrow.is (arrow_goes_on (g.R.Holds.answers c.args.functions.now) c.in-Arrow.code _ _ _ (rw c.deref.ensures at c.replace.ensures))

pub returns-in-Closed : goal.returns-in-Closed
returns-in-Closed g c =
    rw c.in-Closed.is (closed_goes_on (g.R.Holds.answers c.args.functions.now) c.in-Closed.closure _ c.args.value.now c.apply_closure.new.value c.apply_closure.result (rw c.deref-in-Closed.ensures at c.apply_closure.ensures))

pub returns-in-Clock : goal.returns-in-Clock
returns-in-Clock g c = λ q scope L same k. clock_goes_on q scope _ _ L _ _ _ _ c.tell_time.ensures.told c.tell_time.ensures.kept (rw c.in-Clock.is at k)

pub returns-in-Area : goal.returns-in-Area
returns-in-Area g c = λ q scope L same k. area_goes_on q scope _ _ L _ _ _ _ c.step.ensures.told c.step.ensures.kept (rw c.in-Area.is at k)

pub returns-in-Timed : goal.returns-in-Timed
returns-in-Timed g c = λ q scope L same k.
    let at_first = c.deref_mut-in-Timed.ensures.value in
    timer_goes_on q scope _ L c.in-Timed.timer _ _ _ (rw at_first at c.step-in-Timed.ensures.told) (rw at_first at c.step-in-Timed.ensures.kept) (rw c.in-Timed.is at k)

pub returns-in-Ticked : goal.returns-in-Ticked
returns-in-Ticked g c = λ q scope L same k.
    let at_first = c.deref_mut-in-Ticked.ensures.value in
    ticker_goes_on q scope _ L c.in-Ticked.ticker _ _ _ (rw at_first at c.step-in-Ticked.ensures.told) (rw at_first at c.step-in-Ticked.ensures.kept) (rw c.in-Ticked.is at k)

pub returns-in-Delayed : goal.returns-in-Delayed
returns-in-Delayed g c = λ q scope L same k.
    let at_first = c.deref_mut-in-Delayed.ensures.value in
    line_goes_on q scope _ L c.in-Delayed.line _ _ _ (rw at_first at c.step-in-Delayed.ensures.told) (rw at_first at c.step-in-Delayed.ensures.kept) (rw c.in-Delayed.is at k)

pub returns-in-Selected : goal.returns-in-Selected
returns-in-Selected g c = λ q scope L same k. selected_goes_on q scope _ _ L _ _ _ _ c.select.ensures.told c.select.ensures.kept (rw c.in-Selected.is at k)

pub returns-in-Edge : goal.returns-in-Edge
returns-in-Edge g c = λ q scope L same k. edge_goes_on q scope _ _ L _ _ _ _ c.rise.ensures.told c.rise.ensures.kept (rw c.in-Edge.is at k)

pub returns-in-Tagged : goal.returns-in-Tagged
returns-in-Tagged g c = λ q scope L same k. tagged_goes_on q scope _ _ L _ _ _ _ _ c.rise_with.ensures.told c.rise_with.ensures.kept (rw c.in-Tagged.is at k)

pub returns-in-Count : goal.returns-in-Count
returns-in-Count g c = λ q scope L same k. count_goes_on q scope _ _ L _ _ _ _ c.count_event.ensures.told c.count_event.ensures.kept (rw c.in-Count.is at k)

pub returns-in-Now : goal.returns-in-Now
returns-in-Now g c = λ q scope L same k. now_goes_on q scope _ L _ _ _ (rw c.replace-given.ensures.value at c.announce.ensures) (rw c.in-Now.is at k)

pub returns-in-Initially : goal.returns-in-Initially
returns-in-Initially g c = λ q scope L same k. rw c.replace-in-Initially.ensures.value (initially_goes_on q scope _ _ L _ (rw c.in-Initially.is at k))

pub returns-in-Hold : goal.returns-in-Hold
returns-in-Hold g c = λ q scope L same k. hold_goes_on q scope _ _ L _ _ _ _ c.hold.ensures.told c.hold.ensures.kept (rw c.in-Hold.is at k)

pub returns-in-DelayedHold : goal.returns-in-DelayedHold
returns-in-DelayedHold g c = λ q scope L same k. hold_before_goes_on q scope _ _ L _ _ _ _ c.hold_before.ensures.told c.hold_before.ensures.kept (rw c.in-DelayedHold.is at k)

pub returns-in-NotYet : goal.returns-in-NotYet
returns-in-NotYet g c = λ q scope L same k. not_yet_goes_on q scope _ _ L _ _ _ c.pass_later.ensures.told c.pass_later.ensures.kept (rw c.in-NotYet.is at k)

pub returns-in-Accumulated : goal.returns-in-Accumulated
returns-in-Accumulated g c =
    let at_first = c.deref_mut.ensures.value in
    rw c.in-Accumulated.is (accumulated_goes_on (g.R.Holds.answers c.args.functions.now) _ _ c.in-Accumulated.accumulator _ _ _ (rw at_first at c.accumulate.ensures.shows) (rw at_first at c.accumulate.ensures.carries) (rw at_first at c.accumulate.ensures.same))

pub returns-in-Fused : goal.returns-in-Fused
returns-in-Fused g c = rw c.in-Fused.is (fused_goes_on (g.R.Holds.answers c.args.functions.now) c.in-Fused.links _ c.args.value.now c.run_links.new.value c.run_links.result (rw (c.deref-in-Fused-2.ensures.value, c.deref-in-Fused.ensures) at c.run_links.ensures))
