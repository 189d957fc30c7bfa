use Rattle.sf_state.proofs.Copies.{switch_follows}
use Rattle.sf_state.proofs.state.Switch.clone_in.Goals as goal

pub returns : goal.returns
returns c = λ μ. switch_follows μ c.args.self.now c.in_ok-running.running (c.in_ok-running.ensures μ)
