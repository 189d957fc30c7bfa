use Rattle.sf_func.specs.Signatures.{signatures_in}
use Rattle.sf_expr.specs.Scopes.{entries_around}
use Rattle.sf_term.specs.Arena.{templates_of}
use Rattle.sf_check.specs.Contexts.{program_in}
use Rattle.sf_check.proofs.Contexts.{names_inside}
use Rattle.sf_check.proofs.context.TypingContext.within.Goals as goal

pub returns-clause-context : goal.returns-clause-context
returns-clause-context c = names_inside (signatures_in c.args.self.now.functions.now) (templates_of (program_in c.args.self.now)) c.args.names.now (entries_around c.args.self.now.names) _ c.in_ok-names.ensures
