-- What was accepted.
use Rattle.std.specs.Prelude.{[], unwrap_or}
use Rattle.sf_value.specs.Values.{int_kind}
use Rattle.sf_func.specs.Registries.{TypesByName}
use Rattle.sf_func.specs.Signatures.{signatures_in}
use Rattle.sf_term.specs.declared.form.Bare.TheVariants.{Identity}
use Rattle.sf_term.specs.declared.program.Program.{Program}
use Rattle.sf_term.specs.Trees.{Template, primitive, bare}
use Rattle.sf_term.specs.Arena.{templates_of}
use Rattle.sf_mean.specs.Networks.{main_of}
use Rattle.sf_check.specs.declared.checked.Checked.{Checked}

-- the program that was accepted
abbrev pub accepted_program : Checked → Program
accepted_program c = c.program

-- the types of the stored functions with which it was accepted
abbrev pub types_checked : Checked → TypesByName
types_checked c = signatures_in c.functions

-- what stands for `main` where there is none
abbrev pub no_main : Template
no_main = record { name = []; parameters = []; input = int_kind; output = int_kind; body = primitive (bare Identity) }

-- the template that is run, `main`
unfoldable pub checked_main : Checked → Template
checked_main c = unwrap_or (main_of (templates_of (accepted_program c))) no_main
