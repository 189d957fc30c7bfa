use Rattle.sf_law.specs.Copies.{copies_gathered}
use Rattle.sf_law.proofs.members.plan_gathered.Goals as goal

pub returns-clause-same : goal.returns-clause-same
returns-clause-same c = copies_gathered c.in_ok-members.ensures.same
