use Rattle.std.proofs.Common.{[], ◌∷◌}
use Rattle.sf_code.proofs.Compiled.{compiled_worth, closed_same}
use Rattle.sf_code.proofs.laws.compiled_expression.Goals as goal

pub returns-clause-expressions : goal.returns-clause-expressions
returns-clause-expressions c = λ e s ps vs. compiled_worth s e ps vs

pub returns-clause-functions : goal.returns-clause-functions
returns-clause-functions c = λ p e s d. compiled_worth s e (p ∷ []) (d ∷ [])

pub returns-clause-closed : goal.returns-clause-closed
returns-clause-closed c = λ e w v ps. closed_same w v e ps
