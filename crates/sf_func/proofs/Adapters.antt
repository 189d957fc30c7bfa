-- What functions on numbers answer to values.
use Rattle.std.proofs.Common.{◌≡◌, ℤ, true, false, cond, Option, Some, None, refl, subst, IfSome}
use Rattle.std.specs.Option.{option_and_then}
use Rattle.sf_value.specs.Values.{HasKind, int_kind, pair_kind, number, has_int, is_narrow}
use Rattle.sf_func.specs.Numbers.{narrowed, as_number, as_numbers, on_number, on_numbers}
use Rattle.sf_func.specs.Registries.{KeepsTypes}

-- a number that is answered is within signed 64 bits
narrow_number : (z : ℤ) → IfSome (narrowed z) (λ a. HasKind a int_kind)
narrow_number z = (elim (is_narrow z) as (λ b. is_narrow z ≡ b → IfSome (cond b (Some (number z)) None) (λ a. HasKind a int_kind)) [
  | true ↦ λ is. has_int is
  | false ↦ λ is. tt
]) refl

narrow_answer : (o : Option ℤ) → IfSome (option_and_then narrowed o) (λ a. HasKind a int_kind)
narrow_answer None = tt
narrow_answer (Some z) = narrow_number z

pub int1_keeps : (f : ℤ → Option ℤ) → KeepsTypes int_kind int_kind (on_number f)
int1_keeps f d a h is = subst (λ o. IfSome o (λ a. HasKind a int_kind)) is (narrow_answer (option_and_then f (as_number d)))

pub int2_keeps : (f : ℤ → ℤ → Option ℤ) → KeepsTypes (pair_kind int_kind int_kind) int_kind (on_numbers f)
int2_keeps f d a h is = subst (λ o. IfSome o (λ a. HasKind a int_kind)) is (narrow_answer (option_and_then (λ p. f p.0 p.1) (as_numbers d)))
