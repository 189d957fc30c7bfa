use Rattle.sf_differ.proofs.Told.{told_as, told_on}
use Rattle.sf_check.specs.Differing.{function_differs}
use Rattle.sf_check.proofs.differing.explain_arrow.Goals as goal

pub returns-in_err-answer : goal.returns-in_err-answer
returns-in_err-answer c = told_on _ _ c.from_residual.ensures.1 (told_as (λ d k. function_differs k) c.in_err-answer.ensures.err)
