use Rattle.std.proofs.Common.{ap}
use Rattle.sf_func.specs.Signatures.{signatures_in}
use Rattle.sf_expr.specs.Meanings.{Entries}
use Rattle.sf_term.specs.Arena.{templates_of}
use Rattle.sf_mean.specs.Contexts.{outer_context}
use Rattle.sf_check.specs.Standing.{bindings_from}
use Rattle.sf_check.proofs.context.TypingContext.of_body.Goals as goal

pub returns-clause-context : goal.returns-clause-context
returns-clause-context c = ap (λ (es : Entries). outer_context (signatures_in c.args.functions.now) (bindings_from es) (templates_of c.args.program.now)) c.in_ok-names.ensures
