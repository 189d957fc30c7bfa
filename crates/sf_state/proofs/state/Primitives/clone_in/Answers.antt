use Rattle.sf_state.proofs.Copies.{both_follow}
use Rattle.sf_state.proofs.state.Primitives.clone_in.Goals as goal

pub returns : goal.returns
returns c = λ μ. both_follow μ c.args.self.now.first c.in_ok-first.first c.args.self.now.second c.in_ok-second.second c.in_ok-first.ensures c.in_ok-second.ensures
