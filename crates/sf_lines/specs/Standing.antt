-- The streams that a cutter stands for.
use Rattle.std.specs.Prelude.{◌≡◌, ◌≢◌, ℕ, ◌+◌, ◌≤◌, ◌<◌, List, [], ◌∷◌, ◌++◌, length, take, All, None, Result, Ok, Err}
use Rattle.sf_lines.specs.declared.cutter.Cutter.{Cutter}
use Rattle.sf_lines.specs.declared.cutter.Cut.{Cut}
use Rattle.sf_lines.specs.declared.cutter.Cut.TheVariants.{Whole, Line, Part}
use Rattle.sf_lines.specs.declared.refusal.LineRefusal.{LineRefusal}
use Rattle.sf_lines.specs.Lines.{Splits, lines_of}
use Rattle.sf_lines.specs.Limits.{limit_refusal, RefusesNext}
use Rattle.sf_lines.specs.Cutting.{pending, line_of, lines_taken, stopped_by}

-- The cutter stands for each stream of as many complete lines as it has counted, at most 1,000,000 of at most
-- 65,536 bytes each, and then the unfinished bytes that it holds, which are within those limits too.
pub record CutterStands (c : Cutter) (stream : List ℕ) (lines : List (List ℕ)) : Type 0 where
  pub splits : Splits stream lines (pending c)
  pub counted : length lines ≡ lines_taken c
  pub few : length lines ≤ 1000000
  pub short : All (λ line. length line ≤ 65536) lines
  pub unfinished : pending c ≢ [] → limit_refusal (length lines) (pending c) ≡ None
  pub accepts : stopped_by c ≡ None

-- what a piece gives behind a stream of these lines
abbrev pub TakesPiece : List ℕ → List (List ℕ) → List ℕ → Result Cut LineRefusal → Cutter → Type 0
TakesPiece stream lines piece (Ok (Whole line)) new = CutterStands new (stream ++ take (length line.now + 1) piece) (lines ++ line.now ∷ [])
TakesPiece stream lines piece (Ok (Line used)) new = CutterStands new (stream ++ take used piece) (lines ++ line_of new ∷ [])
TakesPiece stream lines piece (Ok Part) new = CutterStands new (stream ++ piece) lines
TakesPiece stream lines piece (Err r) new = RefusesNext (stream ++ piece) lines r

-- what the end gives behind a stream of these lines: unfinished bytes are then a line, as if a line feed followed
abbrev pub Finishes : List ℕ → List (List ℕ) → Result Cut LineRefusal → Cutter → Type 0
Finishes stream lines (Ok (Whole line)) new = ⊥
Finishes stream lines (Ok (Line used)) new = (lines_of stream ≡ lines ++ line_of new ∷ []) × CutterStands new (stream ++ 10 ∷ []) (lines ++ line_of new ∷ [])
Finishes stream lines (Ok Part) new = (lines_of stream ≡ lines) × CutterStands new stream lines
Finishes stream lines (Err r) new = ⊥

-- a line is complete, with so many more bytes and its line feed
pub record CompletesLine (old : Cutter) (used : ℕ) (new : Cutter) : Type 0 where
  pub size : length (pending old) + used ≡ length (line_of new) + 1
  pub fresh : pending new ≡ []
  pub counted : lines_taken new ≡ lines_taken old + 1

-- a line is complete that is not held
pub record PassesLine (old : Cutter) (line : List ℕ) (new : Cutter) : Type 0 where
  pub none : pending old ≡ []
  pub still : pending new ≡ []
  pub short : length line ≤ 65536
  pub counted : lines_taken new ≡ lines_taken old + 1

-- no line is complete, and so many bytes came to the unfinished one
pub record GrowsBy (old : Cutter) (size : ℕ) (new : Cutter) : Type 0 where
  pub none : line_of new ≡ []
  pub grown : length (pending new) ≡ length (pending old) + size
  pub counted : lines_taken new ≡ lines_taken old

-- how far a piece brings a cutter
abbrev pub TakesBytes : Cutter → List ℕ → Result Cut LineRefusal → Cutter → Type 0
TakesBytes old piece (Ok (Whole line)) new = (length line.now < length piece) × PassesLine old line.now new
TakesBytes old piece (Ok (Line used)) new = (0 < used) × (used ≤ length piece) × CompletesLine old used new
TakesBytes old piece (Ok Part) new = GrowsBy old (length piece) new
TakesBytes old piece (Err r) new = line_of new ≡ []

-- how far the end brings it
abbrev pub FinishesBytes : Cutter → Result Cut LineRefusal → Cutter → Type 0
FinishesBytes old (Ok (Whole line)) new = ⊥
FinishesBytes old (Ok (Line used)) new = (used ≡ 0) × CompletesLine old 1 new
FinishesBytes old (Ok Part) new = (pending old ≡ []) × GrowsBy old 0 new
FinishesBytes old (Err r) new = line_of new ≡ []
