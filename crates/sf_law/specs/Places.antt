-- The places of a template's parameters.
use Rattle.std.specs.Prelude.{◌≡◌, ℕ, List, [], ◌∷◌, map, Option, None, bytes_eq}
use Rattle.std.specs.BTreeMap.{BTreeMap, get}
use Rattle.std.specs.Ordering.{nat_cmp}
use Rattle.std.specs.List.{AllZip}
use Rattle.sf_value.specs.Values.{Name}
use Rattle.sf_expr.specs.declared.exprs.Exprs.{Exprs}
use Rattle.sf_expr.specs.declared.exprs.NameId.{NameId}
use Rattle.sf_expr.specs.declared.exprs.numbers.Numbers.{Numbers}
use Rattle.sf_expr.specs.Arena.{name_at}
use Rattle.sf_expr.specs.Numbered.{number_at}
use Rattle.sf_expr.specs.Meanings.{place_behind}
use Rattle.sf_law.specs.Headers.{ParameterHeader, PlanHeader}

-- the names of parameters, in order
abbrev pub names_of_parameters : Exprs → List ParameterHeader → List Name
names_of_parameters x qs = map (λ (q : ParameterHeader). name_at x q.name) qs

-- the place of the last of a name
abbrev pub last_parameter : Name → List Name → Option ℕ
last_parameter x [] = None
last_parameter x (y ∷ ys) = place_behind (bytes_eq x y) (last_parameter x ys)

-- under the number of each name stands the place of its last parameter, if there is one
abbrev pub PlacesLast : Exprs → Numbers → PlanHeader → BTreeMap ℕ ℕ → Type 0
PlacesLast x n h places = (k : NameId) → get nat_cmp places (number_at n k) ≡ last_parameter (name_at x k) (names_of_parameters x h.parameters)

-- the same of templates
abbrev pub ArePlaces : Exprs → Numbers → List PlanHeader → List (BTreeMap ℕ ℕ) → Type 0
ArePlaces x n hs places = AllZip (PlacesLast x n) hs places
