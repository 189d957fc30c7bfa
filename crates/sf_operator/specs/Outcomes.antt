-- What an evaluation gives: an answer, or a fault.
use Rattle.std.specs.Prelude.{ℤ, pos, cond, Option, Some, None}
use Rattle.sf_value.specs.Values.{Data, number, is_narrow}
use Rattle.sf_value.specs.declared.fault.ValueFault.{ValueFault}
use Rattle.sf_value.specs.declared.fault.ValueFault.TheVariants.{Overflow}

-- An answer, or a fault.
pub data Evaluated (A : Type 0) : Type 0 where
  answer : A → Evaluated A
  failed : ValueFault → Evaluated A

-- What is done with an answer. The first fault stands.
infixl 10 ◌>>=◌
abbrev pub ◌>>=◌ : {A B : Type 0} → Evaluated A → (A → Evaluated B) → Evaluated B
(answer a) >>= f = f a
(failed x) >>= f = failed x

-- What stands where a value makes no sense: a name that is bound to nothing, an operator on a value of another type. A typed expression never meets it.
abbrev pub nonsense : Data
nonsense = number (pos 0)

-- what is made of a part of a value, where the value has such a part
abbrev pub known : {A : Type 0} → Option A → (A → Evaluated Data) → Evaluated Data
known (Some x) f = f x
known None f = answer nonsense

-- a whole number, where it is within signed 64 bits
abbrev pub tested : ℤ → Evaluated Data
tested z = cond (is_narrow z) (answer (number z)) (failed Overflow)
