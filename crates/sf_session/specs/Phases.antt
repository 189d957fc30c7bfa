-- How far a run has come.
use Rattle.std.specs.Prelude.{ℕ, List, [], Option, Some, None}
use Rattle.sf_player.specs.Stops.{stop_end, stop_line}
use Rattle.sf_player.specs.declared.end.PlayEnd.{PlayEnd}
use Rattle.sf_player.specs.declared.end.PlayEnd.TheVariants.{Done}
use Rattle.sf_session.specs.declared.phase.Phase.{Phase}
use Rattle.sf_session.specs.declared.phase.Phase.TheVariants.{Running, Stopped, Finished}

-- how the run has ended, if it has
abbrev pub phase_end : Phase → Option PlayEnd
phase_end Running = None
phase_end (Stopped x) = Some (stop_end x)
phase_end Finished = Some Done

-- the line that says how it has stopped
abbrev pub phase_line : Phase → List ℕ
phase_line Running = []
phase_line (Stopped x) = stop_line x
phase_line Finished = []
