use Rattle.std.proofs.Common.{◌≡◌, ◌++◌, map, take}
use Rattle.sf_probe.specs.Readings.{reading_of, probe_readings}
use Rattle.sf_meter.proofs.meter.copy_readings.Given as goal

abbrev pub invariant-loop-reading : goal.invariant-loop-reading
invariant-loop-reading l = probe_readings l.readings ≡ probe_readings l.initial.readings ++ map reading_of (take l.reading-index l.items)
