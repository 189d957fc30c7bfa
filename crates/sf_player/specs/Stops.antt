-- Stops of runs.
use Rattle.std.specs.Prelude.{ℕ, List}
use Rattle.sf_lines.specs.Written.{fault_line, refusal_line}
use Rattle.sf_player.specs.declared.end.PlayEnd.{PlayEnd}
use Rattle.sf_player.specs.declared.end.PlayEnd.TheVariants.{Fault, BadLine}
use Rattle.sf_player.specs.declared.stop.Stop.{Stop}
use Rattle.sf_player.specs.declared.stop.Stop.TheVariants.{Faulted, Refused}

-- how a run ends by a stop
abbrev pub stop_end : Stop → PlayEnd
stop_end (Faulted t f) = Fault
stop_end (Refused n r) = BadLine

-- the line that says it
abbrev pub stop_line : Stop → List ℕ
stop_line (Faulted t f) = fault_line t f
stop_line (Refused n r) = refusal_line n r
