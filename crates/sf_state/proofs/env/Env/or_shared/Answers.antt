use Rattle.sf_state.proofs.Fewer.{all_kept}
use Rattle.sf_state.proofs.env.Env.or_shared.Goals as goal

pub returns-in_ok-share-in-None : goal.returns-in_ok-share-in-None
returns-in_ok-share-in-None c = λ μ m e N h. all_kept μ (c.in_ok-share-in-None.ensures μ e N)
