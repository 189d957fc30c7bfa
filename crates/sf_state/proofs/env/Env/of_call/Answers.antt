use Rattle.sf_state.proofs.Scopes.{called_of}
use Rattle.sf_state.proofs.env.Env.of_call.Goals as goal

pub returns : goal.returns
returns c = λ μ e G. called_of μ _ c.in_ok-call.call c.in_ok-call.ensures.ok e G
