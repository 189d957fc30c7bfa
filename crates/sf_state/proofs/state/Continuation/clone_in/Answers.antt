use Rattle.sf_state.proofs.Copies.{keep_follows}
use Rattle.sf_state.proofs.state.Continuation.clone_in.Goals as goal

pub returns : goal.returns
returns c = λ μ. keep_follows μ c.args.self.now c.in_ok-source.source _ c.in_ok-observer.observer (c.in_ok-source.ensures μ) (c.in_ok-observer.ensures μ)
