use Rattle.std.proofs.Common.{sym}
use Rattle.sf_func.specs.Signatures.{signatures_in}
use Rattle.sf_expr.specs.Scopes.{entries_around}
use Rattle.sf_check.proofs.Contexts.{names_seen_through}
use Rattle.sf_check.proofs.context.TypingContext.expressions.Goals as goal

pub returns-clause-names : goal.returns-clause-names
returns-clause-names c = sym (names_seen_through (signatures_in c.args.self.now.functions.now) (entries_around c.args.self.now.names))
