use Rattle.std.proofs.Common.{◌∙◌, ap}
use Rattle.sf_func.specs.Signatures.{signatures_in}
use Rattle.sf_expr.specs.Arena.{name_at}
use Rattle.sf_expr.specs.Scopes.{entries_around}
use Rattle.sf_term.specs.Arena.{templates_of}
use Rattle.sf_check.specs.Contexts.{program_in}
use Rattle.sf_check.proofs.Contexts.{process_inside}
use Rattle.sf_check.proofs.context.TypingContext.process_name.Goals as goal

pub returns : goal.returns
returns c =
    process_inside (signatures_in c.args.self.now.functions.now) (templates_of (program_in c.args.self.now)) (entries_around c.args.self.now.names) c.add_process.new.self c.args.from.now c.args.to.now
    (c.name_of-name.ensures ∙ ap (λ x. name_at x c.args.name) c.expressions.ensures) c.new-names.ensures c.in_ok-add_process.ensures
