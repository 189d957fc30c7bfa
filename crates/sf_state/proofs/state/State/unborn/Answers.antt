use Rattle.sf_coincidence.proofs.Same.{alike_itself}
use Rattle.sf_state.specs.Standing.{is_empty, itself, unborn, is_closure}
use Rattle.sf_state.proofs.state.State.unborn.Goals as goal

pub returns : goal.returns
returns c = λ μ. itself (unborn (is_closure (alike_itself _) is_empty))
