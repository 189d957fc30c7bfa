-- Patterns with the places of their names.
use Rattle.std.specs.Prelude.{ℕ, suc, ◌+◌, List, [], ◌∷◌, ◌++◌}
use Rattle.sf_value.specs.Values.{Name}
use Rattle.sf_refusal.specs.declared.spot.Spot.{Spot}
use Rattle.sf_expr.specs.Expressions.{Pattern, unnamed, named, both}

-- A pattern, of which each name has its place in the text.
pub data PlacedPattern : Type 0 where
  placed_unnamed : PlacedPattern
  placed_name : Name → Spot → PlacedPattern
  placed_both : PlacedPattern → PlacedPattern → PlacedPattern

-- the pattern without the places
abbrev pub pattern_of : PlacedPattern → Pattern
pattern_of placed_unnamed = unnamed
pattern_of (placed_name x s) = named x
pattern_of (placed_both p q) = both (pattern_of p) (pattern_of q)

-- the places of its names, from left to right
abbrev pub spots_in : PlacedPattern → List Spot
spots_in placed_unnamed = []
spots_in (placed_name x s) = s ∷ []
spots_in (placed_both p q) = spots_in p ++ spots_in q

-- how many patterns a pattern is made of
abbrev pub pattern_size : PlacedPattern → ℕ
pattern_size placed_unnamed = 1
pattern_size (placed_name x s) = 1
pattern_size (placed_both p q) = suc (pattern_size p + pattern_size q)
