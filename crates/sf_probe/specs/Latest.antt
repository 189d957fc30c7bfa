-- The last reading of each name.
use Rattle.std.specs.Prelude.{◌≡◌, ℕ, List, [], ◌++◌, ◌≤◌, map, fold, reverse, take, length, Option, string_bytes}
use Rattle.std.specs.Map.{lookup}
use Rattle.std.specs.Str.{bytes_eq}
use Rattle.indexmap.specs.IndexSet.{insert_key}
use Rattle.sf_value.specs.Values.{Name, Data}
use Rattle.sf_probe.specs.declared.latest.Latest.{Latest}

-- what was read last under a name
abbrev pub last_reading : Name → List (Name × Data) → Option Data
last_reading name noted = lookup (bytes_eq name) (reverse noted)

-- the names, each once, in the order in which they come first
abbrev pub first_seen : List (Name × Data) → List Name
first_seen noted = fold (λ seen r. insert_key bytes_eq seen r.0) [] noted

-- the names that have a last reading, in order
abbrev pub latest_names : Latest → List Name
latest_names l = map (λ e. string_bytes e.0) l.values.entries

-- the last reading of a name
abbrev pub latest_value : Name → Latest → Option Data
latest_value name l = lookup (λ k. bytes_eq name (string_bytes k)) l.values.entries

-- Of these readings it has the last of each name, in the order in which the names come first.
pub record HasNoted (l : Latest) (noted : List (Name × Data)) : Type 0 where
  pub last : (name : Name) → latest_value name l ≡ last_reading name noted
  pub order : latest_names l ≡ first_seen noted

-- Some of the first of more readings are noted behind those that were.
pub record HasNotedFront (old new : Latest) (more : List (Name × Data)) : Type 0 where
  pub count : ℕ
  pub few : count ≤ length more
  pub holds : (noted : List (Name × Data)) → HasNoted old noted → HasNoted new (noted ++ take count more)
