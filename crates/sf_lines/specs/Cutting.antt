-- What a cutter holds, and what a piece changes.
use Rattle.std.specs.Prelude.{◌≡◌, ◌≢◌, ℕ, ◌+◌, ◌≤◌, ◌<◌, List, [], ◌∷◌, ◌++◌, length, take, Option, Some, None, Result, Ok, Err}
use Rattle.sf_lines.specs.declared.cutter.Cutter.{Cutter}
use Rattle.sf_lines.specs.declared.cutter.State.{State}
use Rattle.sf_lines.specs.declared.cutter.State.TheVariants.{Unfinished, Complete, Refused}
use Rattle.sf_lines.specs.declared.cutter.Cut.{Cut}
use Rattle.sf_lines.specs.declared.cutter.Cut.TheVariants.{Whole, Line, Part}
use Rattle.sf_lines.specs.declared.refusal.LineRefusal.{LineRefusal}
use Rattle.sf_lines.specs.declared.refusal.LineRefusal.TheVariants.{BadLine, LineTooLong, TooManyLines, NotStarted, Started, BadStep, BadValue, OutOfRange, DuplicateKey, NoSave, TooManySaves, Memory}
use Rattle.sf_lines.specs.Lines.{NoFeed}

abbrev pub unfinished_at : State → List ℕ → List ℕ
unfinished_at Unfinished held = held
unfinished_at Complete held = []
unfinished_at (Refused r) held = []

abbrev pub complete_at : State → List ℕ → List ℕ
complete_at Unfinished held = []
complete_at Complete held = held
complete_at (Refused r) held = []

abbrev pub refused_at : State → Option LineRefusal
refused_at Unfinished = None
refused_at Complete = None
refused_at (Refused r) = Some r

-- the bytes of the unfinished line
abbrev pub pending : Cutter → List ℕ
pending c = unfinished_at c.state c.held.items

-- the complete line, or nothing
abbrev pub line_of : Cutter → List ℕ
line_of c = complete_at c.state c.held.items

-- the line that was completed: in the piece, or held
abbrev pub line_cut : Cutter → Cut → List ℕ
line_cut c (Whole line) = line.now
line_cut c (Line used) = line_of c
line_cut c Part = []

-- how many lines were completed
abbrev pub lines_taken : Cutter → ℕ
lines_taken c = c.count

-- the refusal that each later call answers
abbrev pub stopped_by : Cutter → Option LineRefusal
stopped_by c = refused_at c.state

abbrev pub IsStoppedBy : Cutter → LineRefusal → Type 0
IsStoppedBy c r = stopped_by c ≡ Some r

-- a complete line is let go
pub record IsBegun (old new : Cutter) : Type 0 where
  pub held : new.held.items ≡ pending old
  pub count : new.count ≡ old.count
  pub state : new.state ≡ Unfinished

-- a piece without a line feed goes onto the unfinished line
pub record Grows (old : Cutter) (piece : List ℕ) (new : Cutter) : Type 0 where
  pub no_feed : NoFeed piece
  pub grown : pending new ≡ pending old ++ piece
  pub count : lines_taken new ≡ lines_taken old
  pub state : new.state ≡ Unfinished

-- the bytes up to the first line feed complete a line
pub record Completes (old : Cutter) (piece : List ℕ) (used : ℕ) (new : Cutter) : Type 0 where
  pub body : List ℕ
  pub taken : take used piece ≡ body ++ (10 ∷ [])
  pub within : used ≤ length piece
  pub no_feed : NoFeed body
  pub line : line_of new ≡ pending old ++ body
  pub count : lines_taken new ≡ lines_taken old + 1
  pub state : new.state ≡ Complete

-- the piece begins with a whole line, and nothing is held
pub record FindsWhole (old : Cutter) (piece line : List ℕ) (new : Cutter) : Type 0 where
  pub none : pending old ≡ []
  pub taken : take (length line + 1) piece ≡ line ++ (10 ∷ [])
  pub within : length line < length piece
  pub no_feed : NoFeed line
  pub short : length line ≤ 65536
  pub still : pending new ≡ []
  pub count : lines_taken new ≡ lines_taken old + 1
  pub state : new.state ≡ Unfinished

-- with so many bytes of the piece the unfinished line passes 65,536 bytes
pub record Passes (old : Cutter) (piece : List ℕ) : Type 0 where
  pub some : ℕ
  pub no_feed : NoFeed (take some piece)
  pub long : 65536 < length (pending old ++ take some piece)
  pub few : lines_taken old ≢ 1000000

-- a byte comes after the last line that may be
abbrev pub IsTooMany : Cutter → List ℕ → Type 0
IsTooMany old piece = (lines_taken old ≡ 1000000) × (0 < length piece)

abbrev pub CutRefused : Cutter → List ℕ → LineRefusal → Type 0
CutRefused old piece LineTooLong = Passes old piece
CutRefused old piece TooManyLines = IsTooMany old piece
CutRefused old piece BadLine = ⊥
CutRefused old piece NotStarted = ⊥
CutRefused old piece Started = ⊥
CutRefused old piece BadStep = ⊥
CutRefused old piece BadValue = ⊥
CutRefused old piece OutOfRange = ⊥
CutRefused old piece DuplicateKey = ⊥
CutRefused old piece NoSave = ⊥
CutRefused old piece TooManySaves = ⊥
CutRefused old piece Memory = ⊥

abbrev pub CutsPiece : Cutter → List ℕ → Result Cut LineRefusal → Cutter → Type 0
CutsPiece old piece (Ok (Whole line)) new = FindsWhole old piece line.now new
CutsPiece old piece (Ok (Line used)) new = Completes old piece used new
CutsPiece old piece (Ok Part) new = Grows old piece new
CutsPiece old piece (Err r) new = CutRefused old piece r

-- unfinished bytes are a line at the end of the stream
pub record Closes (old : Cutter) (new : Cutter) : Type 0 where
  pub some : pending old ≢ []
  pub line : line_of new ≡ pending old
  pub count : lines_taken new ≡ lines_taken old + 1
  pub state : new.state ≡ Complete

pub record Rests (old : Cutter) (new : Cutter) : Type 0 where
  pub none : pending old ≡ []
  pub still : pending new ≡ []
  pub count : lines_taken new ≡ lines_taken old
  pub state : new.state ≡ Unfinished

abbrev pub Ends : Cutter → Cut → Cutter → Type 0
Ends old (Whole line) new = ⊥
Ends old (Line used) new = (used ≡ 0) × Closes old new
Ends old Part new = Rests old new
