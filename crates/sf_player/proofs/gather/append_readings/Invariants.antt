use Rattle.std.proofs.Common.{◌≡◌, ◌++◌, map, take}
use Rattle.std.specs.List.{flat_map}
use Rattle.sf_lines.specs.Written.{reading_line}
use Rattle.sf_probe.specs.Readings.{reading_of}
use Rattle.sf_player.proofs.gather.append_readings.Given as goal

abbrev pub invariant-loop-reading : goal.invariant-loop-reading
invariant-loop-reading l = l.out.items ≡ l.initial.out.items ++ flat_map (λ q. reading_line q.0 q.1) (map reading_of (take l.reading-index l.reading-items))
