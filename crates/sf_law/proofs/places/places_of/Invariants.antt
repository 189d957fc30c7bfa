use Rattle.std.proofs.Common.{◌≡◌, take}
use Rattle.std.specs.BTreeMap.{get}
use Rattle.std.specs.Ordering.{nat_cmp}
use Rattle.sf_expr.specs.declared.exprs.Exprs.{Exprs}
use Rattle.sf_expr.specs.declared.exprs.NameId.{NameId}
use Rattle.sf_expr.specs.Arena.{name_at}
use Rattle.sf_expr.specs.Numbered.{number_at, AreNumbers}
use Rattle.sf_law.specs.Places.{names_of_parameters, last_parameter}
use Rattle.sf_law.proofs.places.places_of.Given as goal

abbrev pub invariant-loop-place : goal.invariant-loop-place
invariant-loop-place l = record {
  placed : (e : Exprs) → AreNumbers e l.numbers → (k : NameId) → get nat_cmp l.places (number_at l.numbers k) ≡ last_parameter (name_at e k) (names_of_parameters e (take l.place l.parameters));
}
