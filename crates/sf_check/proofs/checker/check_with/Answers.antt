use Rattle.sf_func.specs.Signatures.{signatures_in}
use Rattle.sf_check.proofs.Accepted.{refused_memory}
use Rattle.sf_check.proofs.checker.check_with.Goals as goal

pub returns-in-Err-clause-only : goal.returns-in-Err-clause-only
returns-in-Err-clause-only c = λ accepted. refused_memory (signatures_in c.args.functions) c.args.program c.in-Err.refusal c.in-Err.ensures.refused accepted
