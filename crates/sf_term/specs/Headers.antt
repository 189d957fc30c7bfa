-- Templates as they stand in an arena.
use Rattle.std.specs.Prelude.{ℕ, suc, max, List, [], ◌∷◌}
use Rattle.sf_value.specs.Values.{Name, Kind}
use Rattle.sf_refusal.specs.declared.spot.Spot.{Spot}
use Rattle.sf_term.specs.declared.node.TermId.{TermId}
use Rattle.sf_term.specs.Parameters.{PlacedParameter}

-- a template, whose body is an id: its name with the place of it, its parameters, and the types of its header
pub record Header : Type 0 where
  pub name : Name
  pub spot : Spot
  pub parameters : List PlacedParameter
  pub input : Kind
  pub output : Kind
  pub body : TermId

-- the least number above the bodies of templates
abbrev pub bodies_end : List Header → ℕ
bodies_end [] = 0
bodies_end (h ∷ hs) = max (suc h.body.0) (bodies_end hs)
