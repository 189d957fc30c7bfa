-- What the private readers answer.
use Rattle.std.specs.Prelude.{◌≡◌, ℕ, ◌-◌, ◌^◌, min, List, length, Result, Ok, Err, ⊤}
use Rattle.sf_spelling.specs.Reading.{wide, again}
use Rattle.sf_spelling.specs.Scan.{Stop, bad, fault}
use Rattle.sf_spelling.specs.declared.read.Failure.{Failure}
use Rattle.sf_spelling.specs.declared.read.Failure.TheVariants.{Bad, Wide, Again, Memory}

-- reading stops for this, with so many bytes left, unless memory ran out
abbrev pub Fails : {Y : Type 0} → Failure → Result Y Stop → Type 0
Fails (Bad left) read = (rest : List ℕ) × (read ≡ Err (bad rest)) × (left ≡ length rest)
Fails (Wide left) read = (rest : List ℕ) × (read ≡ Err (fault wide rest)) × (left ≡ length rest)
Fails (Again left) read = (rest : List ℕ) × (read ≡ Err (fault again rest)) × (left ≡ length rest)
Fails Memory read = ⊤

-- an answer, seen so, is what is read
abbrev pub GivesRead : {X Y : Type 0} → (X → Y) → Result X Failure → Result Y Stop → Type 0
GivesRead view (Ok x) read = read ≡ Ok (view x)
GivesRead view (Err e) read = Fails e read

-- past every signed 64-bit number
abbrev pub cap : ℕ
cap = 2 ^ 64 - 1

-- a number that is kept up to the cap
abbrev pub GivesCapped : {Y : Type 0} → Result (ℕ × Y) Failure → Result (ℕ × List ℕ) Stop → (Y → List ℕ) → Type 0
GivesCapped (Ok x) read view = (n : ℕ) × (read ≡ Ok (n, view x.1)) × (x.0 ≡ min n cap)
GivesCapped (Err e) read view = Fails e read
