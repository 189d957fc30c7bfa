-- Arenas.
use Rattle.std.specs.Prelude.{List}
use Rattle.sf_arena.specs.declared.entry.Entry.{Entry}
use Rattle.sf_arena.specs.declared.arena.Arena.{Arena}

-- the nodes of an arena with their depths and places, in the order of their numbers
unfoldable pub entries_of : {N : Type 0} → Arena N → List (Entry N)
entries_of arena = arena.entries.items
