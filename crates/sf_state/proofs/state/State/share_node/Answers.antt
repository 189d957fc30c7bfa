use Rattle.sf_state.proofs.Copies.{same_follows, same_in_turn, unborn_follows, alive_follows, same_waits, watching_follows, same_keeps, continuing_follows, same_gathers, gathering_follows, frozen_follows}
use Rattle.sf_state.proofs.state.State.share_node.Goals as goal

pub returns-in_ok-same-in-Unborn : goal.returns-in_ok-same-in-Unborn
returns-in_ok-same-in-Unborn c = λ μ P L A.
    unborn_follows μ c.in-Unborn.process c.in_ok-same-in-Unborn.same (c.in_ok-same-in-Unborn.ensures μ) P L (rw c.in-Unborn.is at A)

pub returns-in_ok-both-in-Primitives : goal.returns-in_ok-both-in-Primitives
returns-in_ok-both-in-Primitives c = λ μ P L A.
    same_in_turn μ c.in-Primitives.node c.in_ok-both-in-Primitives.both c.in_ok-both-in-Primitives.ensures.cases P L (rw c.in-Primitives.is at A)

pub returns-in_ok-shared-in-Live : goal.returns-in_ok-shared-in-Live
returns-in_ok-shared-in-Live c = λ μ P L A.
    alive_follows μ c.in-Live.names c.in_ok-around-in-Live.around c.in-Live.node.value c.in_ok-shared-in-Live.shared.value
    (c.in_ok-around-in-Live.ensures μ) (same_follows μ _ _ c.in_ok-shared-in-Live.ensures.cases) P L (rw c.in-Live.is at A)

pub returns-in_ok-watching-in-Switch : goal.returns-in_ok-watching-in-Switch
returns-in_ok-watching-in-Switch c = λ μ P L A.
    watching_follows μ c.in-Switch.names c.in_ok-kept-in-Switch.kept c.in-Switch.node.value c.in_ok-watching-in-Switch.watching.value
    (c.in_ok-kept-in-Switch.ensures μ) (same_waits μ _ _ c.in_ok-watching-in-Switch.ensures.cases) P L (rw c.in-Switch.is at A)

pub returns-in_ok-continuing-in-Continuation : goal.returns-in_ok-continuing-in-Continuation
returns-in_ok-continuing-in-Continuation c = λ μ P L A.
    continuing_follows μ c.in-Continuation.names c.in_ok-outer-in-Continuation.outer c.in-Continuation.node.value c.in_ok-continuing-in-Continuation.continuing.value
    (c.in_ok-outer-in-Continuation.ensures μ) (same_keeps μ _ _ c.in_ok-continuing-in-Continuation.ensures.cases) P L (rw c.in-Continuation.is at A)

pub returns-in_ok-rest-in-Frozen : goal.returns-in_ok-rest-in-Frozen
returns-in_ok-rest-in-Frozen c = λ μ P L A.
    frozen_follows μ c.in-Frozen.frozen.value c.in_ok-rest-in-Frozen.rest.value c.in_ok-rest-in-Frozen.ensures.cases P L (rw c.in-Frozen.is at A)

pub returns-in_ok-gathering-in-Gathering : goal.returns-in_ok-gathering-in-Gathering
returns-in_ok-gathering-in-Gathering c = λ μ P L A.
    gathering_follows μ c.in-Gathering.names c.in_ok-beside-in-Gathering.beside c.in-Gathering.node.value c.in_ok-gathering-in-Gathering.gathering.value
    (c.in_ok-beside-in-Gathering.ensures μ) (same_gathers μ _ _ c.in_ok-gathering-in-Gathering.ensures.cases) P L (rw c.in-Gathering.is at A)
