use Rattle.std.proofs.Common.{Result, Ok, Err, OnOk, ◌++◌, ◌∙◌, inl, inr}
use Rattle.std.proofs.lemmas.Result.{on_ok_weaker}
use Rattle.sf_expr.specs.Arena.{expression}
use Rattle.sf_code.specs.Compiling.{named_each}
use Rattle.sf_code.specs.PlaceView.{frame_patterns}
use Rattle.sf_code.specs.Around.{names_by_id}
use Rattle.sf_code.proofs.Outside.{closed_more, conditional_closed, mapped_closed, folded_closed, pair_closed, operation_closed, pair_parts, operation_parts, conditional_parts, folded_parts}
use Rattle.sf_code.proofs.around.+gather.Goals as goal

-- what follows of two facts, or of three, where there is no error
where_both : {A E : Type 0} {P Q R : Type 0} (r : Result A E) → (P → Q → R) → OnOk r P → OnOk r Q → OnOk r R
where_both (Ok a) f h k = f h k
where_both (Err e) f h k = tt

where_all : {A E : Type 0} {P Q R S : Type 0} (r : Result A E) → (P → Q → R → S) → OnOk r P → OnOk r Q → OnOk r R → OnOk r S
where_all (Ok a) f h k l = f h k l
where_all (Err e) f h k l = tt

pub gather-returns-in_ok-gather-in-Conditional-clause-closed : goal.gather-returns-in_ok-gather-in-Conditional-clause-closed
gather-returns-in_ok-gather-in-Conditional-clause-closed t c =
    where_all _ (λ k i j. conditional_closed (frame_patterns c.args.patterns.now) (named_each (names_by_id c.args.exprs.now c.gather.new.names.items)) (named_each (names_by_id c.args.exprs.now c.gather_both.new.names.items)) (rw c.in-Conditional.is at c.node.ensures.builds) k c.in_ok-gather-in-Conditional.ensures.closed i j)
    c.gather_both.ensures.kept c.gather_both.ensures.first c.gather_both.ensures.second

pub gather-returns-in_ok-gather-in-Mapped-clause-closed : goal.gather-returns-in_ok-gather-in-Mapped-clause-closed
gather-returns-in_ok-gather-in-Mapped-clause-closed t c =
    where_both _ (λ k i. mapped_closed (frame_patterns c.args.patterns.now) (named_each (names_by_id c.args.exprs.now c.gather-in-Mapped.new.names.items)) (named_each (names_by_id c.args.exprs.now c.gather_within.new.names.items)) (rw c.in-Mapped.is at c.node.ensures.builds) k c.in_ok-gather-in-Mapped.ensures.closed i)
    c.gather_within.ensures.kept c.gather_within.ensures.closed

pub gather-returns-in_ok-gather_both-in-Folded-clause-closed : goal.gather-returns-in_ok-gather_both-in-Folded-clause-closed
gather-returns-in_ok-gather_both-in-Folded-clause-closed t c =
    where_both _
    (λ k i. folded_closed (frame_patterns c.args.patterns.now) (named_each (names_by_id c.args.exprs.now c.gather_both-in-Folded.new.names.items)) (named_each (names_by_id c.args.exprs.now c.gather_within-in-Folded.new.names.items)) (rw c.in-Folded.is at c.node.ensures.builds) k c.in_ok-gather_both-in-Folded.ensures.first c.in_ok-gather_both-in-Folded.ensures.second i)
    c.gather_within-in-Folded.ensures.kept c.gather_within-in-Folded.ensures.closed

pub gather_both-returns-clause-first : goal.gather_both-returns-clause-first
gather_both-returns-clause-first t c =
    on_ok_weaker _ (λ k. closed_more (named_each (names_by_id c.args.exprs.now c.gather.new.names.items)) (named_each (names_by_id c.args.exprs.now c.gather-2.new.names.items)) k (expression c.args.exprs.now c.args.first) (frame_patterns c.args.patterns.now) c.in_ok-gather.ensures.closed) c.gather-2.ensures.kept

pub gather-returns-in_ok-gather-in-Conditional-clause-fewest : goal.gather-returns-in_ok-gather-in-Conditional-clause-fewest
gather-returns-in_ok-gather-in-Conditional-clause-fewest t c =
    on_ok_weaker c.gather_both.result (λ h e.
    let parts = conditional_parts (frame_patterns c.args.patterns.now) (rw c.in-Conditional.is at c.node.ensures.builds) e in
    h parts.1 parts.2 ∙ c.in_ok-gather-in-Conditional.ensures.fewest parts.0) c.gather_both.ensures.fewest

pub gather-returns-in_ok-gather_both-in-Folded-clause-fewest : goal.gather-returns-in_ok-gather_both-in-Folded-clause-fewest
gather-returns-in_ok-gather_both-in-Folded-clause-fewest t c =
    on_ok_weaker c.gather_within-in-Folded.result (λ h e.
    let parts = folded_parts (frame_patterns c.args.patterns.now) (rw c.in-Folded.is at c.node.ensures.builds) e in
    h parts.2 ∙ c.in_ok-gather_both-in-Folded.ensures.fewest parts.0 parts.1) c.gather_within-in-Folded.ensures.fewest

pub gather-returns-in-Pair-clause-closed : goal.gather-returns-in-Pair-clause-closed
gather-returns-in-Pair-clause-closed t c =
    let ps = frame_patterns c.args.patterns.now ++ named_each (names_by_id c.args.exprs.now c.gather_both-in-Pair.new.names.items) in
    let first = c.gather_both-in-Pair.ensures.first in
    let second = c.gather_both-in-Pair.ensures.second in
    elim c.in-Pair.is [
      | inl k ↦ where_both _ (λ h l. pair_closed ps (rw k at c.node.ensures.builds) h l) first second
      | inr k ↦ where_both _ (λ h l. operation_closed ps (rw k.1 at c.node.ensures.builds) h l) first second
    ]

pub gather-returns-in-Pair-clause-fewest : goal.gather-returns-in-Pair-clause-fewest
gather-returns-in-Pair-clause-fewest t c =
    let ps = frame_patterns c.args.patterns.now in
    let fewest = c.gather_both-in-Pair.ensures.fewest in
    elim c.in-Pair.is [
      | inl k ↦ on_ok_weaker c.gather_both-in-Pair.result (λ h e. let parts = pair_parts ps (rw k at c.node.ensures.builds) e in h parts.0 parts.1) fewest
      | inr k ↦ on_ok_weaker c.gather_both-in-Pair.result (λ h e. let parts = operation_parts ps (rw k.1 at c.node.ensures.builds) e in h parts.0 parts.1) fewest
    ]
