-- What a typing context stands for.
use Rattle.sf_func.specs.Signatures.{signatures_in}
use Rattle.sf_expr.specs.Scopes.{entries_around}
use Rattle.sf_term.specs.declared.program.Program.{Program}
use Rattle.sf_term.specs.Arena.{templates_of}
use Rattle.sf_mean.specs.Contexts.{Context, outer_context}
use Rattle.sf_check.specs.Standing.{bindings_from}
use Rattle.sf_check.specs.declared.context.TypingContext.{TypingContext}

-- the program that terms stand in
abbrev pub program_in : TypingContext → Program
program_in c = c.program.now

-- its names, over the headers of the program and its functions
abbrev pub context_in : TypingContext → Context
context_in c = outer_context (signatures_in c.functions.now) (bindings_from (entries_around c.names)) (templates_of (program_in c))
