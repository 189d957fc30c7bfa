-- What a typed expression is worth has its type.
use Rattle.std.proofs.Common.{Result, Ok, Err, IfOk, subst}
use Rattle.sf_value.specs.Values.{Data, Kind, HasKind}
use Rattle.sf_operator.specs.Outcomes.{Evaluated, answer}
use Rattle.sf_operator.specs.Answers.{Evaluates, Yields, yields}
use Rattle.sf_operator.specs.declared.fault.EvalFault.{EvalFault}

has_kind : {t : Kind} {d : Data} → Yields t (answer d) → HasKind d t
has_kind (yields k) = k

pub answers_kind : (t : Kind) (r : Result Data EvalFault) (w : Evaluated Data) → Evaluates r w → Yields t w → IfOk r (λ d. HasKind d t)
answers_kind t (Ok d) w is typed = has_kind (subst (Yields t) is typed)
answers_kind t (Err x) w is typed = tt
