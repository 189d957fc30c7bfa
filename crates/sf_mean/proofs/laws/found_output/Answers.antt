use Rattle.sf_mean.proofs.Inferred.{output_found, takes_found, primitive_found, primitive_is, chain_takes, chain_found}
use Rattle.sf_mean.proofs.laws.found_output.Goals as goal

pub returns-clause-terms : goal.returns-clause-terms
returns-clause-terms c = λ Γ t a b. (λ h. takes_found h, output_found t a b)

pub returns-clause-primitives : goal.returns-clause-primitives
returns-clause-primitives c = λ Γ p a b. (λ h. primitive_is h, primitive_found p a b)

pub returns-clause-chains : goal.returns-clause-chains
returns-clause-chains c = λ Γ f a b. (λ h. chain_found h, chain_takes f a b)
