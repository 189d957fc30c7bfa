use Rattle.std.proofs.Common.{◌∙◌, ap}
use Rattle.sf_func.specs.Signatures.{signatures_in}
use Rattle.sf_expr.specs.Arena.{stored_pattern}
use Rattle.sf_expr.proofs.Bound.{on_ok, on_err}
use Rattle.sf_expr.proofs.Judged.{binds_binding}
use Rattle.sf_expr.specs.Scopes.{entries_around}
use Rattle.sf_term.specs.Arena.{program_expressions, templates_of}
use Rattle.sf_mean.specs.Contexts.{names_of_values}
use Rattle.sf_check.specs.Contexts.{program_in, context_in}
use Rattle.sf_check.proofs.Contexts.{pattern_inside, pattern_bound, pattern_wrong, pattern_stops}
use Rattle.sf_check.proofs.context.TypingContext.pattern_names.Goals as goal

pub returns-clause-inside : goal.returns-clause-inside
returns-clause-inside c =
    pattern_inside (signatures_in c.args.self.now.functions.now) (templates_of (program_in c.args.self.now)) (entries_around c.args.self.now.names) (c.placed-pattern.ensures ∙ ap (λ x. stored_pattern x c.args.pattern) c.expressions.ensures) c.args.ty.now c.of_pattern.result c.of_pattern.ensures.bound

pub returns-clause-bound : goal.returns-clause-bound
returns-clause-bound c =
    pattern_bound (signatures_in c.args.self.now.functions.now) (templates_of (program_in c.args.self.now)) (entries_around c.args.self.now.names) (c.placed-pattern.ensures ∙ ap (λ x. stored_pattern x c.args.pattern) c.expressions.ensures) c.args.ty.now c.of_pattern.result c.of_pattern.ensures.bound

pub returns-clause-refused : goal.returns-clause-refused
returns-clause-refused c =
    pattern_wrong (c.placed-pattern.ensures ∙ ap (λ x. stored_pattern x c.args.pattern) c.expressions.ensures) c.args.ty.now c.args.at c.of_pattern.result c.of_pattern.ensures.err

pub returns-clause-found : goal.returns-clause-found
returns-clause-found c = on_ok c.of_pattern.result (binds_binding c.args.at (stored_pattern (program_expressions (program_in c.args.self.now)) c.args.pattern)) (returns-clause-bound c)

pub returns-clause-stops : goal.returns-clause-stops
returns-clause-stops c =
    on_err c.of_pattern.result (pattern_stops (stored_pattern (program_expressions (program_in c.args.self.now)) c.args.pattern) c.args.ty.now c.args.at (names_of_values (context_in c.args.self.now))) (returns-clause-refused c)
