use Rattle.std.proofs.Common.{sym, subst, ⊎_elim}
use Rattle.sf_state.proofs.Copies.{IsFresh, same_follows, same_in_turn, primitive_follows, mapped_follows, alive_follows, same_waits, watching_follows, same_keeps, continuing_follows, same_gathers, gathering_follows, primitive_lived, mapped_lived, in_turn_lived, alive_lived, watching_lived, continuing_lived, gathering_lived, unborn_fresh, frozen_fresh, lived_frozen, fresh_frozen}
use Rattle.sf_state.proofs.state.State.freeze.Goals as goal

pub returns-in_ok-copy-in-Primitive : goal.returns-in_ok-copy-in-Primitive
returns-in_ok-copy-in-Primitive c =
    let old = c.in-Primitive.primitive in
    rw c.in-Primitive.is (lived_frozen _ _ c.args.wait c.freeze_node-in-Primitive.result (λ μ. primitive_lived μ old)
    (λ μ. primitive_follows μ old c.in_ok-copy-in-Primitive.copy c.in_ok-copy-in-Primitive.ensures) c.freeze_node-in-Primitive.ensures)

pub returns-in_ok-next-in-Mapped : goal.returns-in_ok-next-in-Mapped
returns-in_ok-next-in-Mapped c =
    let m = c.in-Mapped.arrow in
    let old = c.in-Mapped.mapped in
    rw c.in-Mapped.is (lived_frozen _ _ c.args.wait c.freeze_node-in-Mapped.result (λ μ. mapped_lived μ m old)
    (λ μ. mapped_follows μ m old c.in_ok-next-in-Mapped.next c.in_ok-next-in-Mapped.ensures) c.freeze_node-in-Mapped.ensures)

pub returns-in_ok-both-in-Primitives : goal.returns-in_ok-both-in-Primitives
returns-in_ok-both-in-Primitives c =
    let old = c.in-Primitives.node in
    let new = c.in_ok-both-in-Primitives.both in
    rw c.in-Primitives.is (lived_frozen _ _ c.args.wait c.freeze_node-in-Primitives.result (λ μ. in_turn_lived μ old)
    (λ μ. same_in_turn μ old new c.in_ok-both-in-Primitives.ensures.cases) c.freeze_node-in-Primitives.ensures)

pub returns-in_ok-live-in-Live : goal.returns-in_ok-live-in-Live
returns-in_ok-live-in-Live c =
    let names = c.in-Live.names in
    let old = c.in-Live.node.value in
    let new = c.in_ok-live-in-Live.live.value in
    rw c.in-Live.is (lived_frozen _ _ c.args.wait c.freeze_node.result (λ μ. alive_lived μ names old)
    (λ μ. alive_follows μ names names old new (λ e N. N) (same_follows μ old new c.in_ok-live-in-Live.ensures.cases)) c.freeze_node.ensures)

pub returns-in_ok-switch-in-Switch : goal.returns-in_ok-switch-in-Switch
returns-in_ok-switch-in-Switch c =
    let names = c.in-Switch.names in
    let old = c.in-Switch.node.value in
    let new = c.in_ok-switch-in-Switch.switch.value in
    rw c.in-Switch.is (lived_frozen _ _ c.args.wait c.freeze_node-in-Switch.result (λ μ. watching_lived μ names old)
    (λ μ. watching_follows μ names names old new (λ e N. N) (same_waits μ old new c.in_ok-switch-in-Switch.ensures.cases)) c.freeze_node-in-Switch.ensures)

pub returns-in_ok-continuing-in-Continuation : goal.returns-in_ok-continuing-in-Continuation
returns-in_ok-continuing-in-Continuation c =
    let names = c.in-Continuation.names in
    let old = c.in-Continuation.node.value in
    let new = c.in_ok-continuing-in-Continuation.continuing.value in
    rw c.in-Continuation.is (lived_frozen _ _ c.args.wait c.freeze_node-in-Continuation.result (λ μ. continuing_lived μ names old)
    (λ μ. continuing_follows μ names names old new (λ e N. N) (same_keeps μ old new c.in_ok-continuing-in-Continuation.ensures.cases)) c.freeze_node-in-Continuation.ensures)

pub returns-in-Unborn : goal.returns-in-Unborn
returns-in-Unborn c =
    fresh_frozen c.args.self.now c.args.wait c.share.result (λ μ. ⊎_elim (λ u. subst (λ a. IsFresh μ a) (sym u.1) (unborn_fresh μ u.0))
    (λ f. subst (λ a. IsFresh μ a) (sym f.1) (frozen_fresh μ f.0.value.wait f.0.value.names f.0.value.node)) c.in-Unborn.is) c.share.ensures

pub returns-in_ok-gathering-in-Gathering : goal.returns-in_ok-gathering-in-Gathering
returns-in_ok-gathering-in-Gathering c =
    let names = c.in-Gathering.names in
    let old = c.in-Gathering.node.value in
    let new = c.in_ok-gathering-in-Gathering.gathering.value in
    rw c.in-Gathering.is (lived_frozen _ _ c.args.wait c.freeze_node-in-Gathering.result (λ μ. gathering_lived μ names old)
    (λ μ. gathering_follows μ names names old new (λ e N. N) (same_gathers μ old new c.in_ok-gathering-in-Gathering.ensures.cases)) c.freeze_node-in-Gathering.ensures)
