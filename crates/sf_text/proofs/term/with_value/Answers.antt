use Rattle.sf_text.specs.Parsing.Answers.{ahead}
use Rattle.sf_text.proofs.Found.{term_built, value_ready}
use Rattle.sf_text.proofs.Placed.{with_value_read}
use Rattle.sf_text.proofs.Parsing.Found.{if_built}
use Rattle.sf_text.proofs.term.with_value.Goals as goal

pub returns-clause-reads : goal.returns-clause-reads
returns-clause-reads c = λ whole counted.
    term_built _ _ _ c.args.start.ahead c.add.result c.built.result
    (value_ready c.args.version c.args.left (ahead c.args.reader.now.cursor) c.requires.shallow c.requires.behind c.in_ok-value.ensures.reads)
    c.in_ok-value.ensures.reads.kept counted c.built.ensures c.add.ensures tt

pub returns-clause-placed : goal.returns-clause-placed
returns-clause-placed c = if_built _ _ c.args.start.ahead c.add.result c.built.result c.built.ensures c.add.ensures.ok (λ id added.
    with_value_read c.requires.behind added c.in_ok-value.ensures.placed)
