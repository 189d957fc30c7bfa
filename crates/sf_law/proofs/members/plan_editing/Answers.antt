use Rattle.std.proofs.Common.{refl}
use Rattle.sf_law.specs.Copies.{copies_editing}
use Rattle.sf_law.proofs.members.plan_editing.Goals as goal

pub returns-clause-same : goal.returns-clause-same
returns-clause-same c = copies_editing (record { shown = refl; members = c.in_ok-members.ensures.same; name = refl; pattern = refl; edit = c.in_ok-edit.ensures.same })
