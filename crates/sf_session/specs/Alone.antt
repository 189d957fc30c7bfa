-- Networks that call no stored functions.
use Rattle.std.specs.Prelude.{None}
use Rattle.sf_func.specs.Registries.{AnswersByName}
use Rattle.sf_term.specs.Trees.{Templates}
use Rattle.sf_mean.specs.Meaning.{Network}

-- what is answered where there are no functions
abbrev pub no_answers : AnswersByName
no_answers name d = None

-- the network of these templates
abbrev pub alone : Templates → Network
alone p = record { templates = p; functions = no_answers }
