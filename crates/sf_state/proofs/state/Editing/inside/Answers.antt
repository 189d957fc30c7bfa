use Rattle.sf_state.proofs.state.Editing.inside.Goals as goal
use Rattle.sf_state.specs.Machine.{machine}

pub returns : goal.returns
returns c = λ φ e ms L N G. c.in_ok-around.ensures φ _ (c.in_ok-known.ensures (machine φ c.args.plan.now) e ms L N G)
