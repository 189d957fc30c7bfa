use Rattle.sf_text.specs.Parsing.Answers.{ahead}
use Rattle.sf_text.proofs.Found.{term_built, accumulated_ready}
use Rattle.sf_text.proofs.Placed.{accumulated_read}
use Rattle.sf_text.proofs.Parsing.Found.{if_built}
use Rattle.sf_term.proofs.Extended.{keeps_trans}
use Rattle.sf_text.proofs.term.accumulated.Goals as goal

pub returns-clause-reads : goal.returns-clause-reads
returns-clause-reads c = λ whole counted.
    term_built _ _ _ c.args.start.ahead c.add.result c.built.result
    (accumulated_ready c.args.version c.args.left (ahead c.args.reader.now.cursor) c.requires.shallow c.in_ok-symbol.ensures.reads c.in_ok-value.ensures.reads c.in_ok-symbol-2.ensures.reads c.in_ok-function.ensures.reads c.in_ok-symbol-3.ensures.reads)
    (keeps_trans _ _ _ c.in_ok-value.ensures.reads.kept c.in_ok-function.ensures.reads.kept) counted c.built.ensures c.add.ensures tt

pub returns-clause-placed : goal.returns-clause-placed
returns-clause-placed c = if_built _ _ c.args.start.ahead c.add.result c.built.result c.built.ensures c.add.ensures.ok (λ id added.
    accumulated_read c.in_ok-function.ensures.reads.kept.trees added c.in_ok-symbol.ensures.behind c.in_ok-value.ensures.placed c.in_ok-symbol-2.ensures.behind c.in_ok-function.ensures.placed c.in_ok-symbol-3.ensures.behind)
