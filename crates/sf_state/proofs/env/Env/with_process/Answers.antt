use Rattle.sf_state.proofs.Scopes.{names_running_inside}
use Rattle.sf_state.proofs.env.Env.with_process.Goals as goal

pub returns : goal.returns
returns c = λ μ e P N H. names_running_inside μ _ c.in_ok-running.running.value c.in_ok-running.ensures.ok e P (c.in_ok-around.ensures μ e N) H
