use Rattle.sf_state.proofs.Copies.{releasing_follows, editing_follows, same_held}
use Rattle.sf_state.proofs.state.Gathering.clone_in.Goals as goal

pub returns-in_ok-observer-in-Releasing : goal.returns-in_ok-observer-in-Releasing
returns-in_ok-observer-in-Releasing c = λ μ P L W.
    releasing_follows μ c.in-Releasing.releasing c.in_ok-members-in-Releasing.members _ c.in_ok-observer-in-Releasing.observer (same_held μ _ _ c.in_ok-members-in-Releasing.ensures) (c.in_ok-observer-in-Releasing.ensures μ) P L (rw c.in-Releasing.is at W)

pub returns-in_ok-edit-in-Editing : goal.returns-in_ok-edit-in-Editing
returns-in_ok-edit-in-Editing c = λ μ P L W.
    editing_follows μ c.in-Editing.editing c.in_ok-running-in-Editing.running c.in_ok-edit-in-Editing.edit c.in_ok-edit-in-Editing.ensures.cases (same_held μ _ _ c.in_ok-running-in-Editing.ensures) P L (rw c.in-Editing.is at W)
