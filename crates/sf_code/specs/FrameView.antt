-- What frames stand for, and what is found in them.
use Rattle.std.specs.Prelude.{List, [], ◌∷◌}
use Rattle.sf_value.specs.Values.{Data}
use Rattle.sf_operator.specs.Outcomes.{nonsense}
use Rattle.sf_code.specs.declared.frames.Frames.{Frames}
use Rattle.sf_code.specs.declared.frames.Frames.TheVariants.{Empty, Only, Within'}
use Rattle.sf_code.specs.declared.frames.Found.{Found}
use Rattle.sf_code.specs.declared.frames.Found.TheVariants.{Nothing, Value}

-- the values of frames, the innermost first
abbrev pub frames_of : Frames → List Data
frames_of Empty = []
frames_of (Only value) = value.now ∷ []
frames_of (Within' value at around) = value.now ∷ frames_of around

-- the value that was found; what makes no sense, where there is nothing
abbrev pub found_value : Found → Data
found_value Nothing = nonsense
found_value (Value v) = v.now
