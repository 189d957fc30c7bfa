use Rattle.std.proofs.Common.{◌∙◌, ap}
use Rattle.sf_expr.specs.Arena.{name_at}
use Rattle.sf_expr.specs.Scopes.{entries_around}
use Rattle.sf_expr.proofs.Judged.{stops_broken}
use Rattle.sf_check.specs.Judging.{judged_process}
use Rattle.sf_check.proofs.Contexts.{stands_as, stands_for, process_found}
use Rattle.sf_check.proofs.context.TypingContext.process.Goals as goal

pub returns-in-Some-Process-clause-found : goal.returns-in-Some-Process-clause-found
returns-in-Some-Process-clause-found c =
    process_found (entries_around c.args.self.now.names) (c.name_of-name.ensures ∙ ap (λ x. name_at x c.args.name) c.expressions.ensures) c.in-Some-Process.field-0-is c.in-Some-Process.ensures.found

pub returns-in-Some-Value-clause-stops : goal.returns-in-Some-Value-clause-stops
returns-in-Some-Value-clause-stops c =
    stops_broken c.broken.ensures (ap (judged_process c.args.at) (stands_for (entries_around c.args.self.now.names) (c.name_of-name.ensures ∙ ap (λ x. name_at x c.args.name) c.expressions.ensures) _ c.in-Some-Value.field-0-is c.in-Some-Value.ensures.found))

pub returns-in-Some-Collection-clause-stops : goal.returns-in-Some-Collection-clause-stops
returns-in-Some-Collection-clause-stops c =
    stops_broken c.broken-in-Some-Collection.ensures
    (ap (judged_process c.args.at) (stands_for (entries_around c.args.self.now.names) (c.name_of-name.ensures ∙ ap (λ x. name_at x c.args.name) c.expressions.ensures) _ c.in-Some-Collection.field-0-is c.in-Some-Collection.ensures.found))

pub returns-in-None-clause-stops : goal.returns-in-None-clause-stops
returns-in-None-clause-stops c =
    stops_broken c.broken-in-None.ensures (ap (judged_process c.args.at) (stands_as (entries_around c.args.self.now.names) (c.name_of-name.ensures ∙ ap (λ x. name_at x c.args.name) c.expressions.ensures) c.in-None.ensures.absent))
