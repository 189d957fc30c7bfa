-- The names of templates.
use Rattle.std.specs.Prelude.{◌≡◌, ℕ, ◌<◌, List, map, Some, slice_get, string_bytes, String}
use Rattle.indexmap.specs.IndexSet.{IndexSet}
use Rattle.sf_value.specs.Values.{Name}
use Rattle.sf_term.specs.declared.program.Program.{Program}
use Rattle.sf_term.specs.Trees.{Templates}
use Rattle.sf_term.specs.Arena.{templates_of}

-- the names of templates, in order
abbrev pub names : Templates → List Name
names ts = map (λ t. t.name) ts

abbrev pub program_names : Program → List Name
program_names p = names (templates_of p)

-- the names in a set, in order
abbrev pub names_of_set : {Y S : Type 0} → IndexSet (String Y) S → List Name
names_of_set set = map string_bytes set.keys

-- The name at a place is one before it.
pub record Repeats (ns : List Name) (place : ℕ) : Type 0 where
  pub earlier : ℕ
  pub before : earlier < place
  pub name : Name
  pub there : slice_get ns earlier ≡ Some name
  pub here : slice_get ns place ≡ Some name

-- no name is one before it
abbrev pub AreDifferent : List Name → Type 0
AreDifferent ns = (place : ℕ) → Repeats ns place → ⊥

-- no template has the name of one before it
abbrev pub HasDifferentNames : Program → Type 0
HasDifferentNames p = AreDifferent (program_names p)
