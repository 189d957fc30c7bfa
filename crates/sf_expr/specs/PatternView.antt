-- The pattern that a `Pat` stands for.
use Rattle.std.specs.Prelude.{string_bytes}
use Rattle.sf_expr.specs.Patterns.{PlacedPattern, placed_unnamed, placed_name, placed_both}
use Rattle.sf_expr.specs.declared.pat.PatForm.{PatForm}
use Rattle.sf_expr.specs.declared.pat.PatForm.TheVariants.{Unnamed, Name, Both}

-- what a form means
abbrev pub pattern_placed : PatForm → PlacedPattern
pattern_placed Unnamed = placed_unnamed
pattern_placed (Name x s) = placed_name (string_bytes x) s
pattern_placed (Both p q) = placed_both p.value q.value
