use Rattle.sf_state.proofs.Scopes.{names_collected_inside}
use Rattle.sf_state.proofs.env.Env.with_members.Goals as goal

pub returns : goal.returns
returns c = λ μ e ms N G. names_collected_inside μ _ c.in_ok-collected.collected c.in_ok-collected.ensures.ok e ms (c.in_ok-around.ensures μ e N) G
