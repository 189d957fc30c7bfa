-- How many lines an input may have, and how long each may be.
use Rattle.std.specs.Prelude.{◌≡◌, ℕ, List, ◌∷◌, ◌++◌, length, nat_lt, if◌then◌else◌, Option, Some, None}
use Rattle.sf_lines.specs.declared.refusal.LineRefusal.{LineRefusal}
use Rattle.sf_lines.specs.declared.refusal.LineRefusal.TheVariants.{TooManyLines, LineTooLong}
use Rattle.sf_lines.specs.Lines.{lines_of}

-- The refusal of a line that stands behind so many others: at most 1,000,000 lines, each of at most 65,536 bytes.
abbrev pub limit_refusal : ℕ → List ℕ → Option LineRefusal
limit_refusal before line = if nat_lt before 1000000 then (if nat_lt 65536 (length line) then Some LineTooLong else None) else Some TooManyLines

-- whatever follows the stream, its line behind these is refused
abbrev pub RefusesNext : List ℕ → List (List ℕ) → LineRefusal → Type 0
RefusesNext stream lines r = (more : List ℕ) → (line : List ℕ) × (others : List (List ℕ)) × (lines_of (stream ++ more) ≡ lines ++ line ∷ others) × (limit_refusal (length lines) line ≡ Some r)
