-- Histories: what an engine has lived since its start, and what it keeps under names.
use Rattle.std.specs.Prelude.{◌≡◌, ◌≢◌, ℕ, ◌+◌, ◌≤◌, ◌<◌, ◌⊎◌, List, [], ◌∷◌, length, Option, Some, None, unwrap_or, All, ⊤, pos, if◌then◌else◌}
use Rattle.std.specs.Map.{lookup}
use Rattle.std.specs.Str.{bytes_eq}
use Rattle.sf_value.specs.Values.{Name, Kind, Data, HasKind, number}
use Rattle.sf_mean.specs.Lives.{step, wait_of, input_of, Life, IsLife}

-- the last input, if there was one
abbrev pub newest_input : Life → Option Data
newest_input [] = None
newest_input (s ∷ L) = Some (input_of s)

-- the last input (before the start there is none that is looked at)
abbrev pub last_input : Life → Data
last_input L = unwrap_or (newest_input L) (number (pos 0))

-- the history after a start
abbrev pub after_start : Data → Life
after_start x = step 0 x ∷ []

-- the history after a step; without an input the last one stands for it
abbrev pub after_step : Life → ℕ → Option Data → Life
after_step L d x = step d (unwrap_or x (last_input L)) ∷ L

-- the first step has no time before it
abbrev pub BeginsAtZero : Life → Type 0
BeginsAtZero [] = ⊤
BeginsAtZero (s ∷ []) = wait_of s ≡ 0
BeginsAtZero (s ∷ r ∷ L) = BeginsAtZero (r ∷ L)

-- a history with inputs of a type
pub record IsHistory (k : Kind) (L : Life) : Type 0 where
  pub life : IsLife L
  pub begins : BeginsAtZero L
  pub inputs : All (λ s. HasKind (input_of s) k) L

-- A step may be so long at a time: 1 to 3,600,000 milliseconds, and not past the last time.
pub record CanWait (t d : ℕ) : Type 0 where
  pub some : 1 ≤ d
  pub short : d ≤ 3600000
  pub lasts : t + d ≤ 4000000000000000

-- histories kept under names, in the order in which the names first came
abbrev pub Saves : Type 0
Saves = List (Name × Life)

-- the history kept under a name
abbrev pub saved_under : Name → Saves → Option Life
saved_under name S = lookup (bytes_eq name) S

-- with a history kept under a name: in its place where the name is there, else behind all
abbrev pub save_kept : Name → Life → Saves → Saves
save_kept name L [] = (name, L) ∷ []
save_kept name L (s ∷ S) = if bytes_eq name s.0 then (s.0, L) ∷ S else s ∷ save_kept name L S

-- a history may be kept under a name: the name is there, or there are fewer than 64
abbrev pub MaySave : Name → Saves → Type 0
MaySave name S = (saved_under name S ≢ None) ⊎ (length S < 64)
