-- The exit statuses of runs.
use Rattle.std.specs.Prelude.{ℕ}
use Rattle.sf_player.specs.declared.end.PlayEnd.{PlayEnd}
use Rattle.sf_player.specs.declared.end.PlayEnd.TheVariants.{Done, Fault, BadLine, Network, ReadFault, WriteFault}

abbrev pub status_of : PlayEnd → ℕ
status_of Done = 0
status_of Fault = 3
status_of BadLine = 4
status_of (Network r) = 5
status_of ReadFault = 6
status_of WriteFault = 6
