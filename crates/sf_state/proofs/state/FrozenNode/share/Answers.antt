use Rattle.sf_state.proofs.Copies.{same_follows, same_in_turn, primitive_follows, mapped_follows, alive_follows, same_waits, watching_follows, same_keeps, continuing_follows, same_gathers, gathering_follows}
use Rattle.sf_state.proofs.state.FrozenNode.share.Goals as goal

pub returns-in_ok-copy-in-Primitive : goal.returns-in_ok-copy-in-Primitive
returns-in_ok-copy-in-Primitive c = λ μ names P L A.
    primitive_follows μ c.in-Primitive.primitive c.in_ok-copy-in-Primitive.copy c.in_ok-copy-in-Primitive.ensures P L (rw c.in-Primitive.is at A)

pub returns-in_ok-next-in-Mapped : goal.returns-in_ok-next-in-Mapped
returns-in_ok-next-in-Mapped c = λ μ names P L A.
    mapped_follows μ c.in-Mapped.arrow c.in-Mapped.mapped c.in_ok-next-in-Mapped.next c.in_ok-next-in-Mapped.ensures P L (rw c.in-Mapped.is at A)

pub returns-in_ok-both-in-Primitives : goal.returns-in_ok-both-in-Primitives
returns-in_ok-both-in-Primitives c = λ μ names P L A.
    same_in_turn μ c.in-Primitives.node c.in_ok-both-in-Primitives.both c.in_ok-both-in-Primitives.ensures.cases P L (rw c.in-Primitives.is at A)

pub returns-in_ok-live-in-Live : goal.returns-in_ok-live-in-Live
returns-in_ok-live-in-Live c = λ μ names P L A.
    alive_follows μ names names c.in-Live.node.value c.in_ok-live-in-Live.live.value (λ e N. N) (same_follows μ _ _ c.in_ok-live-in-Live.ensures.cases) P L (rw c.in-Live.is at A)

pub returns-in_ok-switch-in-Switch : goal.returns-in_ok-switch-in-Switch
returns-in_ok-switch-in-Switch c = λ μ names P L A.
    watching_follows μ names names c.in-Switch.node.value c.in_ok-switch-in-Switch.switch.value (λ e N. N) (same_waits μ _ _ c.in_ok-switch-in-Switch.ensures.cases) P L (rw c.in-Switch.is at A)

pub returns-in_ok-continuing-in-Continuation : goal.returns-in_ok-continuing-in-Continuation
returns-in_ok-continuing-in-Continuation c = λ μ names P L A.
    continuing_follows μ names names c.in-Continuation.node.value c.in_ok-continuing-in-Continuation.continuing.value (λ e N. N) (same_keeps μ _ _ c.in_ok-continuing-in-Continuation.ensures.cases) P L (rw c.in-Continuation.is at A)

pub returns-in_ok-gathering-in-Gathering : goal.returns-in_ok-gathering-in-Gathering
returns-in_ok-gathering-in-Gathering c = λ μ names P L A.
    gathering_follows μ names names c.in-Gathering.node.value c.in_ok-gathering-in-Gathering.gathering.value (λ e N. N) (same_gathers μ _ _ c.in_ok-gathering-in-Gathering.ensures.cases) P L (rw c.in-Gathering.is at A)
