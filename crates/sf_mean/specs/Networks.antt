-- Networks by their templates.
use Rattle.std.specs.Prelude.{Option, codes}
use Rattle.sf_func.specs.Registries.{AnswersByName}
use Rattle.sf_term.specs.declared.program.Program.{Program}
use Rattle.sf_term.specs.Trees.{Template, Templates}
pub use Rattle.sf_term.specs.Trees.{template_named}
use Rattle.sf_term.specs.Arena.{templates_of}
use Rattle.sf_mean.specs.Meaning.{Network}

-- the network of a program, where stored functions answer this
abbrev pub network_of : AnswersByName → Program → Network
network_of f p = record { templates = templates_of p; functions = f }

-- the template that a network runs
abbrev pub main_of : Templates → Option Template
main_of ts = template_named (codes "main") ts
