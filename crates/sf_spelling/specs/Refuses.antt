-- What `read_value` answers.
use Rattle.std.specs.Prelude.{ℕ, List, Err, ⊤}
use Rattle.sf_value.specs.Values.{Kind}
use Rattle.sf_spelling.specs.Reading.{Reads, bad_value, out_of_range, duplicate_key}
use Rattle.sf_spelling.specs.declared.read.ReadRefusal.{ReadRefusal}
use Rattle.sf_spelling.specs.declared.read.ReadRefusal.TheVariants.{BadValue, OutOfRange, DuplicateKey, Memory}

-- the refusal with the least place, unless memory ran out
abbrev pub Refuses : Kind → List ℕ → ReadRefusal → Type 0
Refuses t bytes (BadValue n) = Reads t bytes (Err (bad_value n))
Refuses t bytes (OutOfRange n) = Reads t bytes (Err (out_of_range n))
Refuses t bytes (DuplicateKey n) = Reads t bytes (Err (duplicate_key n))
Refuses t bytes Memory = ⊤

abbrev pub IsMemory : ReadRefusal → Type 0
IsMemory Memory = ⊤
IsMemory (BadValue n) = ⊥
IsMemory (OutOfRange n) = ⊥
IsMemory (DuplicateKey n) = ⊥
