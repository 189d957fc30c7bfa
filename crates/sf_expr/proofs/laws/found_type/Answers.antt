use Rattle.sf_expr.proofs.Inferred.{found_typed, typed_found, output_takes, takes_output}
use Rattle.sf_expr.proofs.laws.found_type.Goals as goal

pub returns-clause-expressions : goal.returns-clause-expressions
returns-clause-expressions c = λ R e t. (λ h. typed_found h, found_typed R e t)

pub returns-clause-functions : goal.returns-clause-functions
returns-clause-functions c = λ R f a b. (λ h. takes_output h, output_takes R f a b)
