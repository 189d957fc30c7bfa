-- Readers and writers whose failures are counted.
use Rattle.std.specs.Prelude.{◌≡◌, ℕ, ◌+◌, ◌-◌, ◌<◌, ◌^◌, min, List, ◌++◌, Option, Some, None}
use Rattle.std.specs.Io.KnownBytes.{Appends}
use Rattle.sf_player.specs.declared.counted.Counted.{Counted}
use Rattle.sf_player.specs.declared.end.PlayEnd.{PlayEnd}
use Rattle.sf_player.specs.declared.end.PlayEnd.TheVariants.{Done, Fault, BadLine, Network, ReadFault, WriteFault}

-- the reader or writer itself
abbrev pub inner_of : {T : Type 0} → Counted T → T
inner_of c = c.inner

-- how many of its calls have failed, up to the largest count
abbrev pub failures_of : {T : Type 0} → Counted T → ℕ
failures_of c = c.failures

-- one failure more
abbrev pub one_more : ℕ → ℕ
one_more n = min (n + 1) (2 ^ 64 - 1)

-- a front of the text was written
abbrev pub WritesFront : Option (List ℕ) → Option (List ℕ) → List ℕ → Type 0
WritesFront before after text = (front : List ℕ) × (more : List ℕ) × Appends before after front × (text ≡ front ++ more)

-- the count rises where the run ends by a write fault, and else stays
abbrev pub CountsWrites : PlayEnd → ℕ → ℕ → Type 0
CountsWrites WriteFault before after = before < after
CountsWrites Done before after = after ≡ before
CountsWrites Fault before after = after ≡ before
CountsWrites BadLine before after = after ≡ before
CountsWrites (Network r) before after = after ≡ before
CountsWrites ReadFault before after = after ≡ before

-- the count rises where the run ends by a read fault, and else stays
abbrev pub CountsReads : PlayEnd → ℕ → ℕ → Type 0
CountsReads ReadFault before after = before < after
CountsReads Done before after = after ≡ before
CountsReads Fault before after = after ≡ before
CountsReads BadLine before after = after ≡ before
CountsReads (Network r) before after = after ≡ before
CountsReads WriteFault before after = after ≡ before

-- the same of a run that may go on
abbrev pub MayCountWrites : Option PlayEnd → ℕ → ℕ → Type 0
MayCountWrites None before after = after ≡ before
MayCountWrites (Some e) before after = CountsWrites e before after
