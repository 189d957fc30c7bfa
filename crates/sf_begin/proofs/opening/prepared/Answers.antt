use Rattle.sf_begin.proofs.Begins.{begin_live, begin_gathering}
use Rattle.sf_begin.proofs.opening.prepared.Goals as goal

pub returns-in-Live-clause-begins : goal.returns-in-Live-clause-begins
returns-in-Live-clause-begins c = λ μ t e x N O. begin_live μ c.in-Live.node c.args.names N (rw c.in-Live.is at O)

pub returns-in-Gathering-clause-begins : goal.returns-in-Gathering-clause-begins
returns-in-Gathering-clause-begins c = λ μ t e x N O. begin_gathering μ c.in-Gathering.members c.args.names N (rw c.in-Gathering.is at O)
