-- What a command asks for.
use Rattle.sf_lines.specs.declared.reader.Command.{Command}
use Rattle.sf_lines.specs.declared.reader.Command.TheVariants.{Nothing, Start, Step, Save, Back}
use Rattle.sf_lines.specs.Asking.{Asked, nothing, start, advance, save, back}

abbrev pub command_asked : Command → Asked
command_asked Nothing = nothing
command_asked (Start x) = start x
command_asked (Step dt input) = advance dt input
command_asked (Save name) = save name.now
command_asked (Back name) = back name.now
