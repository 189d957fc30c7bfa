use Rattle.sf_state.proofs.Copies.{process_follows}
use Rattle.sf_state.proofs.state.Process.share.Goals as goal

pub returns : goal.returns
returns c = λ μ P Q. process_follows μ c.args.self.now c.in_ok-names.names (c.in_ok-names.ensures μ) P Q
