-- The grammar of input lines, and what a line asks for.
use Rattle.std.specs.Prelude.{◌≡◌, ◌≢◌, ℕ, zero, suc, ◌<◌, ◌==◌, Bool, true, false, IsTrue, nat_lt, if◌then◌else◌, List, [], ◌∷◌, ◌++◌, codes, Option, Some, None, Result, Ok, Err}
use Rattle.sf_value.specs.Values.{Kind, Data, Name}
use Rattle.sf_decimal.specs.Decimals.{natural}
use Rattle.sf_lex.specs.Words.{is_word}
use Rattle.sf_spelling.specs.Reading.{Refusal, bad_value, out_of_range, duplicate_key, Reads}
use Rattle.sf_lines.specs.declared.refusal.LineRefusal.{LineRefusal}
use Rattle.sf_lines.specs.declared.refusal.LineRefusal.TheVariants.{BadLine, NotStarted, Started, BadStep, BadValue, OutOfRange, DuplicateKey}

-- The parts of a line: nothing, or a comment; a time step in milliseconds and the bytes of a value; a time step
-- with the input unchanged; the name to keep a state under; the name to return to.
pub data LineForm : Type 0 where
  blank : LineForm
  sampled : ℕ → List ℕ → LineForm
  repeated : ℕ → LineForm
  saving : Name → LineForm
  returning : Name → LineForm

-- a state is kept under a word of the network language, a keyword too, but not under `_`
abbrev pub IsSaveName : Name → Type 0
IsSaveName name = IsTrue (is_word name)

-- a line has these parts
pub data HasForm : List ℕ → LineForm → Type 0 where
  empty : HasForm [] blank
  comment : {rest : List ℕ} → HasForm (35 ∷ rest) blank
  with_value : {line value : List ℕ} {d : ℕ} → line ≡ natural d ++ (codes " " ++ value) → value ≢ codes "=" → HasForm line (sampled d value)
  unchanged : {line : List ℕ} {d : ℕ} → line ≡ natural d ++ codes " =" → 0 < d → HasForm line (repeated d)
  with_save : {line : List ℕ} {name : Name} → line ≡ codes "save " ++ name → IsSaveName name → HasForm line (saving name)
  with_back : {line : List ℕ} {name : Name} → line ≡ codes "back " ++ name → IsSaveName name → HasForm line (returning name)

-- What a line asks for: nothing; a start with this value; a step of so many milliseconds, with this input or,
-- without one, the input unchanged; to keep the state under a name; to return to the state kept under a name.
pub data Asked : Type 0 where
  nothing : Asked
  start : Data → Asked
  advance : ℕ → Option Data → Asked
  save : Name → Asked
  back : Name → Asked

-- The refusal of a time step: 0 is the start, which comes once and first; a step has at most 3,600,000 milliseconds.
abbrev pub step_refusal : Bool → ℕ → Option LineRefusal
step_refusal false d = if d == 0 then None else Some NotStarted
step_refusal true d = if d == 0 then Some Started else (if nat_lt 3600000 d then Some BadStep else None)

-- The refusal of a line for its time: of its time step; and before the start no state is kept or returned to.
abbrev pub time_refusal : Bool → LineForm → Option LineRefusal
time_refusal started blank = None
time_refusal started (sampled d value) = step_refusal started d
time_refusal started (repeated d) = step_refusal started d
time_refusal started (saving name) = if started then None else Some NotStarted
time_refusal started (returning name) = if started then None else Some NotStarted

-- A line's value is read: the line is a time step and a value, and its time step is not refused.
pub record HasTimelyValue (started : Bool) (line : List ℕ) : Type 0 where
  pub step : ℕ
  pub value : List ℕ
  pub form : HasForm line (sampled step value)
  pub timely : step_refusal started step ≡ None

-- the refusal of the bytes of a value
abbrev pub value_refusal : Refusal → LineRefusal
value_refusal (bad_value n) = BadValue
value_refusal (out_of_range n) = OutOfRange
value_refusal (duplicate_key n) = DuplicateKey

-- a value at a time step
abbrev pub sample_asked : ℕ → Data → Asked
sample_asked zero x = start x
sample_asked (suc d) x = advance (suc d) (Some x)

-- What a line asks for, or the refusal that comes first: of its form, of its time, of its value.
pub data Says (started : Bool) (input : Kind) : List ℕ → Result Asked LineRefusal → Type 0 where
  formless : {line : List ℕ} → ((form : LineForm) → HasForm line form → ⊥) → Says started input line (Err BadLine)
  silent : {line : List ℕ} → HasForm line blank → Says started input line (Ok nothing)
  untimely : {line : List ℕ} {form : LineForm} {r : LineRefusal} → HasForm line form → time_refusal started form ≡ Some r → Says started input line (Err r)
  unread : {line value : List ℕ} {d : ℕ} (r : Refusal) → HasForm line (sampled d value) → step_refusal started d ≡ None → Reads input value (Err r) → Says started input line (Err (value_refusal r))
  read : {line value : List ℕ} {d : ℕ} {x : Data} → HasForm line (sampled d value) → step_refusal started d ≡ None → Reads input value (Ok x) → Says started input line (Ok (sample_asked d x))
  again : {line : List ℕ} {d : ℕ} → HasForm line (repeated d) → step_refusal started d ≡ None → Says started input line (Ok (advance d None))
  keeps : {line : List ℕ} {name : Name} → HasForm line (saving name) → IsTrue started → Says started input line (Ok (save name))
  returns : {line : List ℕ} {name : Name} → HasForm line (returning name) → IsTrue started → Says started input line (Ok (back name))
