-- What the running of code for a number or a truth answers.
use Rattle.std.specs.Prelude.{◌≡◌, Bool, ℤ, Option, Some, None, Result, Ok, Err}
use Rattle.sf_value.specs.Values.{Data, truth, number}
use Rattle.sf_operator.specs.Answers.{EvaluatesAs}
use Rattle.sf_operator.specs.Outcomes.{Evaluated, answer, failed}
use Rattle.sf_operator.specs.Operations.{truth_held, number_held}
use Rattle.sf_operator.specs.declared.fault.EvalFault.{EvalFault}

-- the number that an answer is, if it is one; nothing of a fault
abbrev pub numbered : Evaluated Data → Option (Option ℤ)
numbered (answer d) = Some (number_held d)
numbered (failed x) = None

-- A result answers the number that code is worth, none where it is worth another value, or its fault.
abbrev pub AnswersNumber : Result (Option ℤ) EvalFault → Evaluated Data → Type 0
AnswersNumber (Ok (Some z)) worth = worth ≡ answer (number z)
AnswersNumber (Ok None) worth = numbered worth ≡ Some None
AnswersNumber (Err fault) worth = EvaluatesAs (λ (z : ℤ). number z) (Err fault) worth

-- whether an answer is true, if it is a truth; nothing of a fault
abbrev pub trued : Evaluated Data → Option (Option Bool)
trued (answer d) = Some (truth_held d)
trued (failed x) = None

-- A result answers the truth that code is worth, none where it is worth another value, or its fault.
abbrev pub AnswersTruth : Result (Option Bool) EvalFault → Evaluated Data → Type 0
AnswersTruth (Ok (Some b)) worth = worth ≡ answer (truth b)
AnswersTruth (Ok None) worth = trued worth ≡ Some None
AnswersTruth (Err fault) worth = EvaluatesAs (λ (b : Bool). truth b) (Err fault) worth
