use Rattle.std.proofs.Common.{sym}
use mathlib.Core.Path.{ap₂}
use Rattle.sf_func.specs.Signatures.{signatures_in}
use Rattle.sf_expr.specs.declared.exprs.Exprs.{Exprs}
use Rattle.sf_expr.specs.Typing.{Names}
use Rattle.sf_expr.specs.Judging.{judged}
use Rattle.sf_expr.specs.Scopes.{entries_around}
use Rattle.sf_expr.proofs.Judged.{answers_same}
use Rattle.sf_check.proofs.Contexts.{names_seen_through}
use Rattle.sf_check.proofs.typing.value_type.Goals as goal

pub returns : goal.returns
returns c =
    answers_same _ (ap₂ (λ (x : Exprs) (R : Names). judged x c.args.value R) (sym c.expressions.ensures) (names_seen_through (signatures_in c.args.context.now.functions.now) (entries_around c.args.context.now.names))) c.type_of.ensures.judged
