use Rattle.std.proofs.Common.{◌∙◌, subst, sym}
use Rattle.sf_lex.specs.Words.{IsName}
use Rattle.sf_text.specs.Parsing.Answers.{ahead}
use Rattle.sf_term.proofs.Extended.{keeps_trans}
use Rattle.sf_text.proofs.Parsing.Found.{expression_built, if_built, if_built_on, linked_ready, prefixed_ready, one_in_brackets_ready, two_in_brackets_ready, conditional_ready, let_ready, mapping_found, one_and_function_ready, two_and_function_ready, called_ready}
use Rattle.sf_text.proofs.Parsing.Placed.{linked_read, prefixed_read, one_in_brackets_read, two_in_brackets_read, conditional_read, parted_read, let_read, one_and_function_read, two_and_function_read, called_read}
use Rattle.sf_text.proofs.parts.reader.Reader.+expression.Goals as goal

pub linked-returns-clause-reads : goal.linked-returns-clause-reads
linked-returns-clause-reads t c = λ whole counted.
    expression_built _ _ _ c.args.start.ahead c.add_linked.result c.built.result
    (linked_ready c.args.version c.args.left (ahead c.args.self.now.cursor) c.requires.shallow c.in_ok-one.ensures.reads c.in_ok-link.ensures.reads c.in_ok-two.ensures.reads c.in_ok-symbol.ensures.reads)
    (keeps_trans _ _ _ c.in_ok-one.ensures.reads.kept c.in_ok-two.ensures.reads.kept) (c.in_ok-two.ensures.reads.terms ∙ c.in_ok-one.ensures.reads.terms) counted c.built.ensures c.add_linked.ensures tt

pub linked-returns-clause-placed : goal.linked-returns-clause-placed
linked-returns-clause-placed t c = if_built _ _ c.args.start.ahead c.add_linked.result c.built.result c.built.ensures c.add_linked.ensures.ok (λ id added.
    linked_read c.in_ok-link.link (ahead c.expression.new.self.cursor) (ahead c.link.new.self) c.in_ok-two.ensures.reads.kept.trees added c.in_ok-one.ensures.placed c.in_ok-link.ensures.reads c.in_ok-link.ensures.behind c.in_ok-two.ensures.placed c.in_ok-symbol.ensures.behind)

pub prefixed-returns-clause-reads : goal.prefixed-returns-clause-reads
prefixed-returns-clause-reads t c = λ whole counted.
    expression_built _ _ _ c.args.start.ahead c.applied.result c.built.result
    (prefixed_ready c.args.version c.args.left (ahead c.args.self.now.cursor) c.requires.shallow c.in_ok-part.ensures.reads)
    c.in_ok-part.ensures.reads.kept c.in_ok-part.ensures.reads.terms counted c.built.ensures c.applied.ensures tt

pub prefixed-returns-clause-placed : goal.prefixed-returns-clause-placed
prefixed-returns-clause-placed t c = if_built _ _ c.args.start.ahead c.applied.result c.built.result c.built.ensures c.applied.ensures.ok (λ id added.
    prefixed_read c.requires.stands added c.in_ok-part.ensures.placed)

pub one_in_brackets-returns-clause-reads : goal.one_in_brackets-returns-clause-reads
one_in_brackets-returns-clause-reads t c = λ whole counted.
    expression_built _ _ _ c.args.start.ahead c.applied.result c.built.result
    (one_in_brackets_ready c.args.version c.args.left (ahead c.args.self.now.cursor) c.requires.shallow c.in_ok-symbol.ensures.reads c.in_ok-part.ensures.reads c.in_ok-symbol-2.ensures.reads)
    c.in_ok-part.ensures.reads.kept c.in_ok-part.ensures.reads.terms counted c.built.ensures c.applied.ensures tt

pub one_in_brackets-returns-clause-placed : goal.one_in_brackets-returns-clause-placed
one_in_brackets-returns-clause-placed t c = if_built _ _ c.args.start.ahead c.applied.result c.built.result c.built.ensures c.applied.ensures.ok (λ id added.
    one_in_brackets_read c.requires.stands added c.in_ok-symbol.ensures.behind c.in_ok-part.ensures.placed c.in_ok-symbol-2.ensures.behind)

pub two_in_brackets-returns-clause-reads : goal.two_in_brackets-returns-clause-reads
two_in_brackets-returns-clause-reads t c = λ whole counted.
    expression_built _ _ _ c.args.start.ahead c.operation.result c.built.result
    (two_in_brackets_ready c.args.version c.args.left (ahead c.args.self.now.cursor) c.requires.shallow c.in_ok-symbol.ensures.reads c.in_ok-one.ensures.reads c.in_ok-symbol-2.ensures.reads c.in_ok-two.ensures.reads c.in_ok-symbol-3.ensures.reads)
    (keeps_trans _ _ _ c.in_ok-one.ensures.reads.kept c.in_ok-two.ensures.reads.kept) (c.in_ok-two.ensures.reads.terms ∙ c.in_ok-one.ensures.reads.terms) counted c.built.ensures c.operation.ensures tt

pub two_in_brackets-returns-clause-placed : goal.two_in_brackets-returns-clause-placed
two_in_brackets-returns-clause-placed t c = if_built _ _ c.args.start.ahead c.operation.result c.built.result c.built.ensures c.operation.ensures.ok (λ id added.
    two_in_brackets_read c.requires.stands c.in_ok-two.ensures.reads.kept.trees added c.in_ok-symbol.ensures.behind c.in_ok-one.ensures.placed c.in_ok-symbol-2.ensures.behind c.in_ok-two.ensures.placed c.in_ok-symbol-3.ensures.behind)

pub conditional-returns-clause-reads : goal.conditional-returns-clause-reads
conditional-returns-clause-reads t c = λ whole counted.
    expression_built _ _ _ c.args.start.ahead c.conditional.result c.built.result
    (conditional_ready c.args.version c.args.left (ahead c.args.self.now.cursor) c.requires.shallow c.in_ok-condition.ensures.reads c.in_ok-keyword.ensures.reads c.in_ok-one.ensures.reads c.in_ok-keyword-2.ensures.reads c.in_ok-two.ensures.reads)
    (keeps_trans _ _ _ c.in_ok-condition.ensures.reads.kept (keeps_trans _ _ _ c.in_ok-one.ensures.reads.kept c.in_ok-two.ensures.reads.kept)) (c.in_ok-two.ensures.reads.terms ∙ c.in_ok-one.ensures.reads.terms ∙ c.in_ok-condition.ensures.reads.terms) counted c.built.ensures c.conditional.ensures tt

pub conditional-returns-clause-placed : goal.conditional-returns-clause-placed
conditional-returns-clause-placed t c = if_built _ _ c.args.start.ahead c.conditional.result c.built.result c.built.ensures c.conditional.ensures.ok (λ id added.
    conditional_read c.in_ok-one.ensures.reads.kept.trees c.in_ok-two.ensures.reads.kept.trees added c.in_ok-condition.ensures.placed c.in_ok-keyword.ensures.behind c.in_ok-one.ensures.placed c.in_ok-keyword-2.ensures.behind c.in_ok-two.ensures.placed)

pub let_in-returns-clause-reads : goal.let_in-returns-clause-reads
let_in-returns-clause-reads t c = λ whole counted.
    expression_built _ _ _ c.args.start.ahead c.mapped-added.result c.built.result
    (let_ready c.args.version c.args.left (ahead c.args.self.now.cursor) c.requires.shallow c.in_ok-pattern.ensures.reads c.in_ok-symbol.ensures.reads c.in_ok-value.ensures.reads c.in_ok-keyword.ensures.reads c.in_ok-body.ensures.reads)
    (keeps_trans _ _ _ c.in_ok-value.ensures.reads.kept c.in_ok-body.ensures.reads.kept) (c.in_ok-body.ensures.reads.terms ∙ c.in_ok-value.ensures.reads.terms) counted c.built.ensures c.mapped-added.ensures.builds c.in_ok-pattern.ensures.names

pub let_in-returns-clause-placed : goal.let_in-returns-clause-placed
let_in-returns-clause-placed t c = if_built_on _ _ _ c.args.start.ahead c.mapped-added.result c.built.result c.built.ensures c.mapped-added.ensures.builds.ok c.mapped-added.ensures.placed (λ id added there.
    let_read c.in_ok-body.ensures.reads.kept.trees added there c.in_ok-pattern.ensures.placed c.in_ok-symbol.ensures.behind c.in_ok-value.ensures.placed c.in_ok-keyword.ensures.behind c.in_ok-body.ensures.placed)

pub one_and_function-returns-clause-reads : goal.one_and_function-returns-clause-reads
one_and_function-returns-clause-reads t c = λ whole counted.
    expression_built _ _ _ c.args.start.ahead c.mapped-added.result c.built.result
    (one_and_function_ready c.args.version c.args.left (ahead c.args.self.now.cursor) c.requires.shallow c.in_ok-symbol.ensures.reads c.in_ok-value.ensures.reads c.in_ok-symbol-2.ensures.reads c.in_ok-pattern.ensures.reads c.in_ok-symbol-3.ensures.reads)
    (keeps_trans _ _ _ c.in_ok-value.ensures.reads.kept c.in_ok-pattern.ensures.reads.kept) (c.in_ok-pattern.ensures.reads.terms ∙ c.in_ok-value.ensures.reads.terms) counted c.built.ensures c.mapped-added.ensures.builds c.in_ok-pattern.ensures.reads.names

pub one_and_function-returns-clause-placed : goal.one_and_function-returns-clause-placed
one_and_function-returns-clause-placed t c = if_built_on _ _ _ c.args.start.ahead c.mapped-added.result c.built.result c.built.ensures c.mapped-added.ensures.builds.ok c.mapped-added.ensures.placed (λ id added there.
    one_and_function_read c.requires.stands c.in_ok-pattern.ensures.reads.kept.trees added there c.in_ok-symbol.ensures.behind c.in_ok-value.ensures.placed c.in_ok-symbol-2.ensures.behind c.in_ok-pattern.ensures.placed c.in_ok-symbol-3.ensures.behind)

pub two_and_function-returns-clause-reads : goal.two_and_function-returns-clause-reads
two_and_function-returns-clause-reads t c = λ whole counted.
    expression_built _ _ _ c.args.start.ahead c.folded-added.result c.built.result
    (two_and_function_ready c.args.version c.args.left (ahead c.args.self.now.cursor) c.requires.shallow c.in_ok-symbol.ensures.reads c.in_ok-one.ensures.reads c.in_ok-symbol-2.ensures.reads c.in_ok-two.ensures.reads c.in_ok-symbol-3.ensures.reads c.in_ok-pattern.ensures.reads c.in_ok-symbol-4.ensures.reads)
    (keeps_trans _ _ _ c.in_ok-one.ensures.reads.kept (keeps_trans _ _ _ c.in_ok-two.ensures.reads.kept c.in_ok-pattern.ensures.reads.kept)) (c.in_ok-pattern.ensures.reads.terms ∙ c.in_ok-two.ensures.reads.terms ∙ c.in_ok-one.ensures.reads.terms) counted c.built.ensures c.folded-added.ensures.builds c.in_ok-pattern.ensures.reads.names

pub two_and_function-returns-clause-placed : goal.two_and_function-returns-clause-placed
two_and_function-returns-clause-placed t c = if_built_on _ _ _ c.args.start.ahead c.folded-added.result c.built.result c.built.ensures c.folded-added.ensures.builds.ok c.folded-added.ensures.placed (λ id added there.
    two_and_function_read c.in_ok-two.ensures.reads.kept.trees c.in_ok-pattern.ensures.reads.kept.trees added there c.in_ok-symbol.ensures.behind c.in_ok-one.ensures.placed c.in_ok-symbol-2.ensures.behind c.in_ok-two.ensures.placed c.in_ok-symbol-3.ensures.behind c.in_ok-pattern.ensures.placed c.in_ok-symbol-4.ensures.behind)

pub called-returns-clause-reads : goal.called-returns-clause-reads
called-returns-clause-reads t c = λ whole counted.
    expression_built _ _ _ c.args.start.ahead c.called.result c.built.result
    (called_ready c.args.version c.args.left (ahead c.args.self.now.cursor) c.requires.shallow c.in_ok-function.ensures.reads c.in_ok-symbol.ensures.reads c.in_ok-part.ensures.reads c.in_ok-symbol-2.ensures.reads (c.in_ok-name.ensures.ok ∙ c.as_str.ensures.text))
    c.in_ok-part.ensures.reads.kept c.in_ok-part.ensures.reads.terms counted c.built.ensures c.called.ensures (subst IsName (sym c.in_ok-name.ensures.ok) c.as_str.ensures.named)

pub called-returns-clause-placed : goal.called-returns-clause-placed
called-returns-clause-placed t c = if_built _ _ c.args.start.ahead c.called.result c.built.result c.built.ensures c.called.ensures.ok (λ id added.
    called_read added c.in_ok-function.ensures.placed c.in_ok-symbol.ensures.behind c.in_ok-part.ensures.placed c.in_ok-symbol-2.ensures.behind)

pub mapping_parts-returns-clause-reads : goal.mapping_parts-returns-clause-reads
mapping_parts-returns-clause-reads t c =
    mapping_found c.args.version c.args.left (ahead c.args.self.now.cursor) c.in_ok-pattern.ensures.reads c.in_ok-symbol.ensures.reads
    c.in_ok-pattern.ensures.names c.in_ok-body.ensures.reads

pub mapping_parts-returns-clause-placed : goal.mapping_parts-returns-clause-placed
mapping_parts-returns-clause-placed t c = parted_read c.in_ok-pattern.ensures.placed c.in_ok-symbol.ensures.behind c.in_ok-body.ensures.placed
