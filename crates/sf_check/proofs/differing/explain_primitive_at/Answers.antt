use Rattle.sf_check.specs.Contexts.{program_in, context_in}
use Rattle.sf_check.specs.Differing.{primitive_differs}
use Rattle.sf_check.proofs.Apart.{form_last}
use Rattle.sf_check.proofs.differing.explain_primitive_at.Goals as goal

pub returns : goal.returns
returns c = form_last (program_in c.args.context.now) (context_in c.args.context.now) c.args.term _ c.args.input.now c.requires.there _ c.spot.ensures _ _ (λ d k. primitive_differs k) c.explain_primitive.ensures
