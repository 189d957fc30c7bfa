use Rattle.sf_rewrite.proofs.Typed.{plan_takes, same_context}
use Rattle.sf_rewrite.proofs.laws.plan_types.Goals as goal

pub returns-clause-terms : goal.returns-clause-terms
returns-clause-terms k = λ Γ t u a b P T. plan_takes P a b T

pub returns-clause-contexts : goal.returns-clause-contexts
returns-clause-contexts k = λ fs bs ss ts P. same_context fs bs P
