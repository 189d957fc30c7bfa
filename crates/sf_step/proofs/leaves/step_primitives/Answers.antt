use Rattle.sf_begin.specs.Contexts.{context_machine}
use Rattle.sf_state.specs.Standing.{in_sequence}
use Rattle.sf_step.proofs.Exits.{own_steps}
use Rattle.sf_step.proofs.leaves.step_primitives.Goals as goal

pub returns-in-Some : goal.returns-in-Some
returns-in-Some g c =
    own_steps (context_machine g.R.Holds.answers c.args.context.now) (in_sequence c.args.node.now.value) (in_sequence c.in-Some.both.now) _ _ (λ P x L R. rw c.in-Some.ensures.value R) c.step_both.ensures

pub returns-in-None : goal.returns-in-None
returns-in-None g c = c.step_primitives_copy.ensures
