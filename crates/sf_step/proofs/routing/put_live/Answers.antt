use Rattle.std.proofs.Common.{sym, subst}
use Rattle.sf_state.specs.declared.state.Live.{Live}
use Rattle.sf_mean.specs.Lives.{closure}
use Rattle.sf_state.specs.Standing.{Settles, itself, alive}
use Rattle.sf_step.proofs.routing.put_live.Goals as goal

pub returns : goal.returns
returns c = λ μ t e L N S. rw c.put.ensures (itself (alive (c.in_ok-around.ensures μ e N) (subst (λ (l : Live). Settles μ l (closure t e) L) (sym c.in_ok-node.ensures.ok) S)))
