use Rattle.sf_coincidence.proofs.Same.{alike_itself}
use Rattle.sf_state.specs.Standing.{itself, unborn, is_closure}
use Rattle.sf_state.specs.Machine.{machine}
use Rattle.sf_state.proofs.state.Releasing.begin.Goals as goal

pub returns : goal.returns
returns c = λ φ e ms L N G.
    itself (unborn (is_closure (alike_itself _) (c.in_ok-around.ensures φ _ (c.in_ok-known.ensures (machine φ c.args.plan.now) e ms L N G))))
