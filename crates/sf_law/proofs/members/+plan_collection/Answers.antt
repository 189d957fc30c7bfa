use Rattle.sf_law.specs.Copies.{copies_empty, copies_used, copies_added, copies_dropped, copies_kept, copies_chosen}
use Rattle.sf_law.proofs.Copied.{shared_copies, shared_coded}
use Rattle.sf_law.proofs.members.+plan_collection.Goals as goal

pub returns-in_ok-output-in-Empty-clause-same : goal.returns-in_ok-output-in-Empty-clause-same
returns-in_ok-output-in-Empty-clause-same t c = shared_copies c.shared.result c.shared.ensures (rw (c.in-Empty.is, c.in_ok-output-in-Empty.ensures.same) copies_empty)

pub returns-in-Used-clause-same : goal.returns-in-Used-clause-same
returns-in-Used-clause-same t c = shared_copies c.shared-in-Used.result c.shared-in-Used.ensures (rw c.in-Used.is copies_used)

pub returns-in_ok-code-in-Added-clause-same : goal.returns-in_ok-code-in-Added-clause-same
returns-in_ok-code-in-Added-clause-same t c = shared_copies c.shared-in-Added.result c.shared-in-Added.ensures (rw (c.in-Added.is, c.id-term.ensures) (copies_added (rw c.deref.ensures at c.in_ok-others-in-Added.ensures.same)))

pub returns-in_ok-code-in-Dropped-clause-same : goal.returns-in_ok-code-in-Dropped-clause-same
returns-in_ok-code-in-Dropped-clause-same t c = shared_copies c.shared-in-Dropped.result c.shared-in-Dropped.ensures (rw c.in-Dropped.is (copies_dropped (rw c.deref-in-Dropped.ensures at c.in_ok-all-in-Dropped.ensures.same)))

pub returns-in_ok-code-in-Kept-clause-same : goal.returns-in_ok-code-in-Kept-clause-same
returns-in_ok-code-in-Kept-clause-same t c = shared_copies c.shared-in-Kept.result c.shared-in-Kept.ensures (rw c.in-Kept.is (copies_kept (rw c.deref-in-Kept.ensures at c.in_ok-all-in-Kept.ensures.same)))

pub returns-in_ok-second-in-Chosen-clause-same : goal.returns-in_ok-second-in-Chosen-clause-same
returns-in_ok-second-in-Chosen-clause-same t c =
    shared_copies c.shared-in-Chosen.result c.shared-in-Chosen.ensures
    (rw c.in-Chosen.is (copies_chosen (rw c.deref-in-Chosen.ensures at c.in_ok-first-in-Chosen.ensures.same) (rw c.deref-in-Chosen-2.ensures at c.in_ok-second-in-Chosen.ensures.same)))

pub returns-in_ok-output-in-Empty-clause-coded : goal.returns-in_ok-output-in-Empty-clause-coded
returns-in_ok-output-in-Empty-clause-coded t c = shared_coded c.args.exprs.now _ c.shared.result c.shared.ensures tt

pub returns-in-Used-clause-coded : goal.returns-in-Used-clause-coded
returns-in-Used-clause-coded t c = shared_coded c.args.exprs.now _ c.shared-in-Used.result c.shared-in-Used.ensures tt

pub returns-in_ok-code-in-Added-clause-coded : goal.returns-in_ok-code-in-Added-clause-coded
returns-in_ok-code-in-Added-clause-coded t c = shared_coded c.args.exprs.now _ c.shared-in-Added.result c.shared-in-Added.ensures (c.in_ok-others-in-Added.ensures.coded, c.in_ok-code-in-Added.ensures.code)

pub returns-in_ok-code-in-Dropped-clause-coded : goal.returns-in_ok-code-in-Dropped-clause-coded
returns-in_ok-code-in-Dropped-clause-coded t c = shared_coded c.args.exprs.now _ c.shared-in-Dropped.result c.shared-in-Dropped.ensures (c.in_ok-all-in-Dropped.ensures.coded, c.in_ok-code-in-Dropped.ensures.code)

pub returns-in_ok-code-in-Kept-clause-coded : goal.returns-in_ok-code-in-Kept-clause-coded
returns-in_ok-code-in-Kept-clause-coded t c = shared_coded c.args.exprs.now _ c.shared-in-Kept.result c.shared-in-Kept.ensures (c.in_ok-all-in-Kept.ensures.coded, c.in_ok-code-in-Kept.ensures.code)

pub returns-in_ok-second-in-Chosen-clause-coded : goal.returns-in_ok-second-in-Chosen-clause-coded
returns-in_ok-second-in-Chosen-clause-coded t c = shared_coded c.args.exprs.now _ c.shared-in-Chosen.result c.shared-in-Chosen.ensures (c.in_ok-code-in-Chosen.ensures.code, c.in_ok-first-in-Chosen.ensures.coded, c.in_ok-second-in-Chosen.ensures.coded)
