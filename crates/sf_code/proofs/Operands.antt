-- What arithmetic makes of numbers that code is worth.
use Rattle.std.proofs.Common.{◌≡◌, ℤ, List, Result}
use Rattle.sf_value.specs.Values.{Data, number}
use Rattle.sf_value.specs.declared.fault.ValueFault.{ValueFault}
use Rattle.sf_func.specs.Registries.{AnswersByName}
use Rattle.sf_operator.specs.Answers.{Computes}
use Rattle.sf_operator.specs.Outcomes.{answer}
use Rattle.sf_operator.specs.Operations.{of_numbers}
use Rattle.sf_operator.specs.declared.operator.Arithmetic as arithmetic
use Rattle.sf_operator.specs.declared.operator.Operator.TheVariants.{Arithmetic}
use Rattle.sf_code.specs.Codes.{Code, operation}
use Rattle.sf_code.specs.Running.{run}

-- an operator between codes that are worth numbers is worth what it makes of these
pub computes_operation : (o : arithmetic.Arithmetic) (i j : Code) (vs : List Data) (f : AnswersByName) (x y : ℤ) (r : Result ℤ ValueFault) → run i vs f ≡ answer (number x) → run j vs f ≡ answer (number y)
    → Computes r (of_numbers o x y) → Computes r (run (operation i (Arithmetic o) j) vs f)
computes_operation o i j vs f x y r left right made = simp (left, right) made
