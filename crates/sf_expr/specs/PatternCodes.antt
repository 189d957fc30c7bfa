-- How a pattern is stored as a list of marks, each before what it is made of, by which a proof tells two patterns apart.
use Rattle.std.specs.Prelude.{◌≡◌, ℕ, List, [], ◌∷◌, refl}
use Rattle.std.proofs.Common.{ap, ◌∙◌}
use Rattle.sf_expr.specs.Patterns.{PlacedPattern, placed_unnamed, placed_name, placed_both}

pub data PatternMark : Type 0 where
  is_unnamed : PatternMark
  is_name : List ℕ → ℕ → ℕ → PatternMark
  is_both : PatternMark

abbrev pub marked_pattern : PlacedPattern → List PatternMark → List PatternMark
marked_pattern placed_unnamed more = is_unnamed ∷ more
marked_pattern (placed_name x s) more = is_name x s.line s.column ∷ more
marked_pattern (placed_both p q) more = is_both ∷ marked_pattern p (marked_pattern q more)

-- the patterns of the marks after this one, and this one's
abbrev pub put_pattern : PatternMark → List PlacedPattern → List PlacedPattern
put_pattern is_unnamed ps = placed_unnamed ∷ ps
put_pattern (is_name x line column) ps = placed_name x (record { line = line; column = column }) ∷ ps
put_pattern is_both (p ∷ q ∷ ps) = placed_both p q ∷ ps
put_pattern m ps = ps

abbrev pub patterns : List PatternMark → List PlacedPattern
patterns [] = []
patterns (m ∷ ms) = put_pattern m (patterns ms)

abbrev first_pattern : List PlacedPattern → PlacedPattern
first_pattern [] = placed_unnamed
first_pattern (p ∷ ps) = p

abbrev pub pattern_marks_of : PlacedPattern → List PatternMark
pattern_marks_of p = marked_pattern p []

abbrev pub decoded_pattern : List PatternMark → PlacedPattern
decoded_pattern ms = first_pattern (patterns ms)

patterns-marks : (p : PlacedPattern) (more : List PatternMark) → patterns (marked_pattern p more) ≡ p ∷ patterns more
patterns-marks placed_unnamed more = refl
patterns-marks (placed_name x s) more = refl
patterns-marks (placed_both p q) more = ap (put_pattern is_both) (patterns-marks p (marked_pattern q more) ∙ ap (λ ps. p ∷ ps) (patterns-marks q more))

pub decoded_pattern-marks_of : (p : PlacedPattern) → decoded_pattern (pattern_marks_of p) ≡ p
decoded_pattern-marks_of p = ap first_pattern (patterns-marks p [])
