use Rattle.std.proofs.Common.{refl}
use Rattle.sf_law.specs.Copies.{copies_releasing}
use Rattle.sf_law.proofs.members.plan_releasing.Goals as goal

pub returns-clause-same : goal.returns-clause-same
returns-clause-same c = copies_releasing (record { shown = refl; members = c.in_ok-members.ensures.same; observer = c.id-observer.ensures; name = refl; pattern = refl; body = c.id-body.ensures })
