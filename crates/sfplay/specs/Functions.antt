-- The functions that networks may call.
use Rattle.std.specs.Prelude.{◌≡◌, [], ◌∷◌, codes}
use Rattle.sf_value.specs.Values.{Data, int_kind, pair_kind}
use Rattle.sf_func.specs.Registries.{FunctionTypes, TypesByName, AnswersByName, types_shown}
use Rattle.sf_func.specs.Numbers.{on_number, on_numbers}
use Rattle.sf_func.specs.Arithmetic.{absolute, sign_number, greater_number, less_number}

-- from a number to a number
abbrev pub number_to_number : FunctionTypes
number_to_number = types_shown int_kind int_kind

-- from two numbers to a number
abbrev pub numbers_to_number : FunctionTypes
numbers_to_number = types_shown (pair_kind int_kind int_kind) int_kind

-- their types
abbrev pub types_offered : TypesByName
types_offered = (codes "abs", number_to_number) ∷ (codes "sign", number_to_number) ∷ (codes "max", numbers_to_number) ∷ (codes "min", numbers_to_number) ∷ []

-- what they answer
pub record AreOffered (answers : AnswersByName) : Type 0 where
  pub abs : (d : Data) → answers (codes "abs") d ≡ on_number absolute d
  pub sign : (d : Data) → answers (codes "sign") d ≡ on_number sign_number d
  pub max : (d : Data) → answers (codes "max") d ≡ on_numbers greater_number d
  pub min : (d : Data) → answers (codes "min") d ≡ on_numbers less_number d
