-- What an evaluation answers.
use Rattle.std.specs.Prelude.{◌≡◌, ℤ, Result, Ok, Err}
use Rattle.sf_value.specs.Values.{Data, Kind, HasKind, number}
use Rattle.sf_value.specs.declared.fault.ValueFault.{ValueFault}
use Rattle.sf_operator.specs.Outcomes.{Evaluated, answer, failed}
use Rattle.sf_operator.specs.declared.fault.EvalFault.{EvalFault}
use Rattle.sf_operator.specs.declared.fault.EvalFault.TheVariants.{Value, Memory}

-- A result, seen so, answers what an expression is worth: its value, or its fault. Want of memory says nothing of it.
abbrev pub EvaluatesAs : {A : Type 0} → (A → Data) → Result A EvalFault → Evaluated Data → Type 0
EvaluatesAs view (Ok x) worth = worth ≡ answer (view x)
EvaluatesAs view (Err (Value fault)) worth = worth ≡ failed fault
EvaluatesAs view (Err Memory) worth = Unit {0}

-- A result answers what an expression is worth.
abbrev pub Evaluates : Result Data EvalFault → Evaluated Data → Type 0
Evaluates r worth = EvaluatesAs (λ v. v) r worth

-- A result answers what an operator makes of numbers: its number, or its fault.
abbrev pub Computes : Result ℤ ValueFault → Evaluated Data → Type 0
Computes (Ok z) worth = worth ≡ answer (number z)
Computes (Err fault) worth = worth ≡ failed fault

-- An answer of a type, or a fault.
pub data Yields (t : Kind) : Evaluated Data → Type 0 where
  yields : {d : Data} → HasKind d t → Yields t (answer d)
  fails : {x : ValueFault} → Yields t (failed x)
