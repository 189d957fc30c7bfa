-- Which names are watched.
use Rattle.std.specs.Prelude.{List, map, Option, Contains, MatchOption, ⊤, string_bytes}
use Rattle.std.specs.Option.{option_map}
use Rattle.sf_value.specs.Values.{Name}
use Rattle.sf_probe.specs.declared.watch.Watch.{Watch}

-- the names that are watched, where these aren't all
abbrev pub watched : Watch → Option (List Name)
watched w = option_map (λ names. map string_bytes names.items) w.names

-- a name is watched: all are, or it is one of those
abbrev pub Wants : Option (List Name) → Name → Type 0
Wants names name = MatchOption names ⊤ (λ names. Contains names name)
