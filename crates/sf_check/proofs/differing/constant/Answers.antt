use Rattle.std.proofs.Common.{sym, IfOk, IfErr}
use mathlib.Core.Path.{subst₂}
use Rattle.sf_func.specs.Signatures.{signatures_in}
use Rattle.sf_expr.specs.declared.exprs.Exprs.{Exprs}
use Rattle.sf_expr.specs.Arena.{expression}
use Rattle.sf_expr.specs.Typing.{Names, HasType}
use Rattle.sf_expr.specs.Scopes.{entries_around}
use Rattle.sf_differ.specs.Differences.{Explains}
use Rattle.sf_differ.specs.Differing.{ExpressionDiffers}
use Rattle.sf_check.proofs.Contexts.{names_seen_through}
use Rattle.sf_check.proofs.differing.constant.Goals as goal

pub returns-clause-ok : goal.returns-clause-ok
returns-clause-ok c =
    subst₂ (λ (x : Exprs) (R : Names). IfOk c.typed.result (λ t. HasType R (expression x c.args.value) t)) c.expressions.ensures
    (sym (names_seen_through (signatures_in c.args.context.now.functions.now) (entries_around c.args.context.now.names))) c.typed.ensures.ok

pub returns-clause-err : goal.returns-clause-err
returns-clause-err c =
    subst₂ (λ (x : Exprs) (R : Names). IfErr c.typed.result (λ b. Explains (ExpressionDiffers x R c.args.value) b)) c.expressions.ensures
    (sym (names_seen_through (signatures_in c.args.context.now.functions.now) (entries_around c.args.context.now.names))) c.typed.ensures.err
