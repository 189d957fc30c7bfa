-- Rows of a table, of which a function is asked one after the other.
use Rattle.std.proofs.Common.{List, ◌∷◌}
use Rattle.sf_value.specs.Values.{Data, Rows}
use Rattle.sf_func.specs.Registries.{AnswersByName}
use Rattle.sf_operator.specs.Outcomes.{Evaluated}
use Rattle.sf_operator.specs.FunctionForms.{folded_rows}
use Rattle.sf_code.specs.Codes.{Code}
use Rattle.sf_code.specs.Running.{run}

-- what the code of a function makes of a value and rows, one after the other
abbrev pub fold_worth : Code → List Data → AnswersByName → Rows → Data → Evaluated Data
fold_worth k vs f rs d = folded_rows rs d (λ x. run k (x ∷ vs) f)
