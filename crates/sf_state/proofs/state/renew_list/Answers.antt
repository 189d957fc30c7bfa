use Rattle.sf_state.proofs.Copies.{list_follows}
use Rattle.sf_state.proofs.state.renew_list.Goals as goal

pub returns : goal.returns
returns c = λ μ. list_follows μ c.args.states.now.value c.in_ok-shared.shared.value c.in_ok-shared.ensures.cases
