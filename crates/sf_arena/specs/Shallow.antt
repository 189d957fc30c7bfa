-- Nodes that stand one inside another.
use Rattle.std.specs.Prelude.{◌≤◌, List, All}
use Rattle.sf_arena.specs.declared.entry.Entry.{Entry}

-- each node is made of at most 64, one inside another
abbrev pub AreShallow : {N : Type 0} → List (Entry N) → Type 0
AreShallow entries = All (λ e. e.depth ≤ 64) entries
