use Rattle.std.proofs.Common.{◌++◌, List, map, take}
use Rattle.sf_value.specs.Values.{Name, Data}
use Rattle.sf_probe.specs.Latest.{HasNoted}
use Rattle.sf_probe.specs.Readings.{reading_of}
use Rattle.sf_probe.proofs.latest.Latest.note.Given as goal

abbrev pub invariant-loop-reading : goal.invariant-loop-reading
invariant-loop-reading l = (noted : List (Name × Data)) → HasNoted l.initial.self noted → HasNoted l.self (noted ++ map reading_of (take l.reading-index l.reading-items))
