use Rattle.sf_term.specs.Arena.{program_expressions, program_expression}
use Rattle.sf_term.proofs.program.Program.conditional.Goals as goal

pub add_expression-requires : goal.add_expression-requires
unfolding program_expressions
add_expression-requires c = (c.requires.condition_held, c.requires.first_held, c.requires.second_held)

pub returns : goal.returns
unfolding program_expressions program_expression
returns c = c.add_expression.ensures
