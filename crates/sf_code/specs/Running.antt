-- What code is worth.
use Rattle.std.specs.Prelude.{cond, List, ◌∷◌}
use Rattle.sf_value.specs.Values.{Data, pair}
use Rattle.sf_func.specs.Registries.{AnswersByName}
use Rattle.sf_operator.specs.Outcomes.{Evaluated, answer, ◌>>=◌, known}
use Rattle.sf_operator.specs.Operations.{truth_held, unary_value, decided, operated}
use Rattle.sf_operator.specs.FunctionForms.{mapped_value, folded_value}
use Rattle.sf_expr.specs.Evaluation.{unless_decided, granted}
use Rattle.sf_code.specs.Places.{value_in_frames}
use Rattle.sf_code.specs.Codes.{Code, place, constant, paired, applied, operation, conditional, mapped, folded, called}

-- what code is worth over the values of its frames, the innermost first, where functions answer so; all is as with expressions, and a function
-- puts its argument before the values
abbrev pub run : Code → List Data → AnswersByName → Evaluated Data
run (place p) vs f = answer (value_in_frames p vs)
run (constant d) vs f = answer d
run (paired i j) vs f = run i vs f >>= λ a. run j vs f >>= λ b. answer (pair a b)
run (applied o i) vs f = run i vs f >>= unary_value o
run (operation i op j) vs f = run i vs f >>= λ a. unless_decided (decided op a) (run j vs f >>= operated op a)
run (conditional i j k) vs f = run i vs f >>= λ c. known (truth_held c) (λ b. cond b (run j vs f) (run k vs f))
run (mapped i m j) vs f = run i vs f >>= λ a. mapped_value m a (λ x. run j (x ∷ vs) f)
run (folded i o j k) vs f = run i vs f >>= λ a. folded_value o a (run j vs f) (λ x. run k (x ∷ vs) f)
run (called g i) vs f = run i vs f >>= λ a. granted (f g a)
