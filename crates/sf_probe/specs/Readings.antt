-- Readings.
use Rattle.std.specs.Prelude.{List, map, string_bytes}
use Rattle.sf_value.specs.Values.{Name, Data}
use Rattle.sf_probe.specs.declared.reading.Reading.{Reading}
use Rattle.sf_probe.specs.declared.reading.Readings as declared

-- a name with what was read under it
abbrev pub reading_of : Reading → Name × Data
reading_of r = (string_bytes r.name.value, r.value)

-- names with what was read under them, in order
abbrev pub probe_readings : declared.Readings → List (Name × Data)
probe_readings rs = map reading_of rs.items.items
