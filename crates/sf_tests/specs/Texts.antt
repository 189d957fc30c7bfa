-- What a function on texts answers.
use Rattle.std.specs.Prelude.{Bool, true, false, cond, Option, Some, None, [], ◌∷◌}
use Rattle.sf_value.specs.Values.{Data, text}

-- the text without characters
abbrev pub is_empty_text : Data → Bool
is_empty_text (text []) = true
is_empty_text (text (x ∷ xs)) = false
is_empty_text d = false

-- a value by itself, but for the text without characters
abbrev pub unless_empty : Data → Option Data
unless_empty d = cond (is_empty_text d) None (Some d)
