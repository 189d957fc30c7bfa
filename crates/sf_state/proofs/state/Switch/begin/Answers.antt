use Rattle.sf_coincidence.proofs.Same.{alike_itself}
use Rattle.sf_state.specs.Standing.{itself, unborn, is_closure}
use Rattle.sf_state.proofs.state.Switch.begin.Goals as goal

pub returns : goal.returns
returns c = λ φ e N. itself (unborn (is_closure (alike_itself _) (c.in_ok-around.ensures φ e N)))
