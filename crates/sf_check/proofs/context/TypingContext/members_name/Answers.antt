use Rattle.std.proofs.Common.{◌∙◌, ap}
use Rattle.sf_value.specs.KindView.{key_kind_of}
use Rattle.sf_func.specs.Signatures.{signatures_in}
use Rattle.sf_expr.specs.Arena.{name_at}
use Rattle.sf_expr.specs.Scopes.{entries_around}
use Rattle.sf_term.specs.Arena.{templates_of}
use Rattle.sf_check.specs.Contexts.{program_in}
use Rattle.sf_check.proofs.Contexts.{collection_inside}
use Rattle.sf_check.proofs.context.TypingContext.members_name.Goals as goal

pub returns : goal.returns
returns c =
    collection_inside (signatures_in c.args.self.now.functions.now) (templates_of (program_in c.args.self.now)) (entries_around c.args.self.now.names) c.add_collection.new.self (key_kind_of c.args.keys) c.args.from.now c.args.to.now
    (c.name_of-name.ensures ∙ ap (λ x. name_at x c.args.name) c.expressions.ensures) c.new-names.ensures c.in_ok-add_collection.ensures
