-- What the parts of the reader answer.
use Rattle.std.specs.Prelude.{◌≡◌, ℕ, ◌<◌, ◌-◌, ◌^◌, min, List, ◌∷◌, ◌++◌}
use Rattle.sf_value.specs.Values.{Name}
use Rattle.sf_decimal.specs.Decimals.{natural, BeginsNoDigit}
use Rattle.sf_lines.specs.declared.reader.Parts.{Parts}
use Rattle.sf_lines.specs.declared.reader.Parts.TheVariants.{Blank, Sampled, Repeated, Save, Back}
use Rattle.sf_lines.specs.Asking.{blank, sampled, repeated, saving, returning, IsSaveName, HasForm}

-- past every time step that may be
abbrev pub step_cap : ℕ
step_cap = 2 ^ 64 - 1

-- the bytes begin with a number, which is n or both are past the cap, and the rest follows its last digit
pub record NumberThen (bytes : List ℕ) (n : ℕ) (rest : List ℕ) : Type 0 where
  pub number : ℕ
  pub capped : n ≡ min number step_cap
  pub cut : bytes ≡ natural number ++ rest
  pub ends : 0 < number → BeginsNoDigit rest

abbrev pub BeginsNoNumber : List ℕ → Type 0
BeginsNoNumber bytes = (d : ℕ) (rest : List ℕ) → bytes ≡ natural d ++ rest → ⊥

-- the bytes begin with a number and a space
pub record StepThen (bytes : List ℕ) (n : ℕ) (rest : List ℕ) : Type 0 where
  pub step : ℕ
  pub capped : n ≡ min step step_cap
  pub cut : bytes ≡ natural step ++ 32 ∷ rest

abbrev pub BeginsNoStep : List ℕ → Type 0
BeginsNoStep bytes = (d : ℕ) (rest : List ℕ) → bytes ≡ natural d ++ 32 ∷ rest → ⊥

-- the bytes are these ones and the name of a save
pub record NameBehind (front bytes name : List ℕ) : Type 0 where
  pub cut : bytes ≡ front ++ name
  pub named : IsSaveName name

abbrev pub NoNameBehind : List ℕ → List ℕ → Type 0
NoNameBehind front bytes = (name : Name) → bytes ≡ front ++ name → IsSaveName name → ⊥

-- a line has a form with these parts
abbrev pub HasParts : List ℕ → Parts → Type 0
HasParts bytes Blank = HasForm bytes blank
HasParts bytes (Sampled n value) = (d : ℕ) × (n ≡ min d step_cap) × HasForm bytes (sampled d value.now)
HasParts bytes (Repeated n) = (d : ℕ) × (n ≡ min d step_cap) × HasForm bytes (repeated d)
HasParts bytes (Save name) = HasForm bytes (saving name.now)
HasParts bytes (Back name) = HasForm bytes (returning name.now)
