-- The types of names, in what they stand for.
use Rattle.std.proofs.Common.{◌≡◌, Bool, true, false, cond, Option, Some, None, refl, ap}
use Rattle.std.specs.Prelude.{bytes_eq}
use Rattle.sf_value.specs.Values.{Name, Kind}
use Rattle.sf_func.specs.Registries.{TypesByName}
use Rattle.sf_expr.specs.Typing.{Names, only_functions, typed_name, untyped_name, type_of_name, named_in, names_and_functions}

-- the type in what a name stands for
abbrev pub type_meant : Option (Option Kind) → Option Kind
type_meant None = None
type_meant (Some o) = o

pub type_named : (x : Name) (R : Names) → type_of_name x R ≡ type_meant (named_in x R)
type_named x (only_functions fs) = refl
type_named x (typed_name y t R) = each (bytes_eq x y) (type_named x R)
  where
    each : (b : Bool) → type_of_name x R ≡ type_meant (named_in x R) → cond b (Some t) (type_of_name x R) ≡ type_meant (cond b (Some (Some t)) (named_in x R))
    each true e = refl
    each false e = e
type_named x (untyped_name y R) = each (bytes_eq x y) (type_named x R)
  where
    each : (b : Bool) → type_of_name x R ≡ type_meant (named_in x R) → cond b None (type_of_name x R) ≡ type_meant (cond b (Some None) (named_in x R))
    each true e = refl
    each false e = e

-- with other functions too
pub named_with : (fs : TypesByName) (x : Name) (R : Names) → named_in x (names_and_functions fs R) ≡ named_in x R
named_with fs x (only_functions gs) = refl
named_with fs x (typed_name y t R) = ap (λ (o : Option (Option Kind)). cond (bytes_eq x y) (Some (Some t)) o) (named_with fs x R)
named_with fs x (untyped_name y R) = ap (λ (o : Option (Option Kind)). cond (bytes_eq x y) (Some None) o) (named_with fs x R)
