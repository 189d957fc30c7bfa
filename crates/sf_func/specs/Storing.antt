-- What stored functions answer to values.
use Rattle.std.specs.Prelude.{ℤ, Option}
use Rattle.std.specs.declared.alloc.Global.{Global}
use Rattle.std.specs.declared.dyn_box.DynBox.{DynBox}
use Rattle.sf_value.specs.Values.{Data}
use Rattle.sf_func.specs.Numbers.{on_number, on_numbers}
use Rattle.sf_func.specs.declared.stored.Stored.{Stored}
use Rattle.sf_func.specs.declared.stored.Stored.TheVariants.{OfValues, OfNumber, OfNumbers}

-- what a stored function answers, where this is what the boxed ones answer
module _ {A B C : Type 0} {F : A → Type 0} {G : B → Type 0} {H : C → Type 0} (values : DynBox A Global F → Data → Option Data) (number : DynBox B Global G → ℤ → Option ℤ) (numbers : DynBox C Global H → ℤ → ℤ → Option ℤ) where
  abbrev pub stored_answers : Stored A B C F G H → Data → Option Data
  stored_answers (OfValues f) = values f
  stored_answers (OfNumber f) = on_number (number f)
  stored_answers (OfNumbers f) = on_numbers (numbers f)
