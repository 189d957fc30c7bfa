use Rattle.std.proofs.Common.{◌∙◌, ap}
use Rattle.sf_expr.specs.Arena.{name_at}
use Rattle.sf_expr.specs.Scopes.{entries_around}
use Rattle.sf_expr.proofs.Judged.{stops_broken}
use Rattle.sf_check.specs.Judging.{judged_collection}
use Rattle.sf_check.proofs.Contexts.{stands_as, stands_for, collection_found}
use Rattle.sf_check.proofs.context.TypingContext.collection.Goals as goal

pub returns-in-Some-Collection-clause-found : goal.returns-in-Some-Collection-clause-found
returns-in-Some-Collection-clause-found c = collection_found (entries_around c.args.self.now.names) (c.name_of-name.ensures ∙ ap (λ x. name_at x c.args.name) c.expressions.ensures) c.in-Some-Collection.field-0-is c.in-Some-Collection.ensures.found

pub returns-in-Some-Value-clause-stops : goal.returns-in-Some-Value-clause-stops
returns-in-Some-Value-clause-stops c =
    stops_broken c.broken.ensures (ap (judged_collection c.args.at) (stands_for (entries_around c.args.self.now.names) (c.name_of-name.ensures ∙ ap (λ x. name_at x c.args.name) c.expressions.ensures) _ c.in-Some-Value.field-0-is c.in-Some-Value.ensures.found))

pub returns-in-Some-Process-clause-stops : goal.returns-in-Some-Process-clause-stops
returns-in-Some-Process-clause-stops c =
    stops_broken c.broken-in-Some-Process.ensures
    (ap (judged_collection c.args.at) (stands_for (entries_around c.args.self.now.names) (c.name_of-name.ensures ∙ ap (λ x. name_at x c.args.name) c.expressions.ensures) _ c.in-Some-Process.field-0-is c.in-Some-Process.ensures.found))

pub returns-in-None-clause-stops : goal.returns-in-None-clause-stops
returns-in-None-clause-stops c =
    stops_broken c.broken-in-None.ensures (ap (judged_collection c.args.at) (stands_as (entries_around c.args.self.now.names) (c.name_of-name.ensures ∙ ap (λ x. name_at x c.args.name) c.expressions.ensures) c.in-None.ensures.absent))
