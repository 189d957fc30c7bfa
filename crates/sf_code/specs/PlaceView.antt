-- What places and the patterns of frames stand for.
use Rattle.std.specs.Prelude.{List, [], ◌∷◌, Option, Some, None, Box}
use Rattle.std.specs.declared.alloc.Global.{Global}
use Rattle.sf_expr.specs.Expressions.{Pattern}
use Rattle.sf_expr.specs.Patterns.{PlacedPattern, pattern_of}
use Rattle.sf_code.specs.declared.place.Half.{Half}
use Rattle.sf_code.specs.declared.place.Path as paths
use Rattle.sf_code.specs.declared.place.Path.TheVariants.{Whole, Half'}
use Rattle.sf_code.specs.declared.place.Place as places
use Rattle.sf_code.specs.declared.place.Place.TheVariants.{Here, Out'}
use Rattle.sf_code.specs.declared.pattern.FramePattern.{FramePattern}
use Rattle.sf_code.specs.declared.place.Patterns.{Patterns}
use Rattle.sf_code.specs.declared.place.Patterns.TheVariants.{Empty, Only, Within'}
use Rattle.sf_code.specs.Places.{Place, at_frame, one_out}

-- the halves of a path
abbrev pub path_of : paths.Path → List Half
path_of Whole = []
path_of (Half' half at path) = half ∷ path_of path

-- the place that a place stands for
abbrev pub place_of : places.Place → Place
place_of (Here path) = at_frame 0 (path_of path)
place_of (Out' at place) = one_out (place_of place)

-- the patterns, the innermost first
abbrev pub frame_patterns : Patterns → List Pattern
frame_patterns Empty = []
frame_patterns (Only frame) = pattern_of frame.now.pattern.now ∷ []
frame_patterns (Within' frame at around) = pattern_of frame.now.pattern.now ∷ frame_patterns around

-- the pattern of one frame, if there is one
abbrev pub around_pattern : Option (Box PlacedPattern Global) → List Pattern
around_pattern None = []
around_pattern (Some p) = pattern_of p.value ∷ []

-- the same of what is told of one frame, if there is one
abbrev pub around_frame : Option FramePattern → List Pattern
around_frame None = []
around_frame (Some frame) = pattern_of frame.pattern.now ∷ []
