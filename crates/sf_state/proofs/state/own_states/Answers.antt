use Rattle.sf_state.proofs.Copies.{list_follows}
use Rattle.sf_state.proofs.state.own_states.Goals as goal

pub returns-in-Ok : goal.returns-in-Ok
returns-in-Ok c = λ μ. list_follows μ c.args.states.value c.in-Ok.own c.in-Ok.ensures.ok
