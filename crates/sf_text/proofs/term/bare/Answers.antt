use Rattle.sf_text.specs.Parsing.Consuming.{spots_ahead}
use Rattle.sf_text.proofs.Placed.{bare_read}
use Rattle.sf_text.proofs.Parsing.Found.{if_built, keeps_self}
use Rattle.sf_text.proofs.Found.{term_built, bare_ready}
use Rattle.sf_text.specs.Parsing.Answers.{ahead}
use Rattle.sf_text.proofs.term.bare.Goals as goal

pub returns-clause-reads : goal.returns-clause-reads
returns-clause-reads c = λ whole counted.
    term_built _ _ _ c.args.start.ahead c.add.result c.built.result
    (bare_ready c.args.kind whole (ahead c.args.reader.now.cursor))
    (keeps_self c.args.reader.now.program) counted c.built.ensures c.add.ensures tt

pub returns-clause-placed : goal.returns-clause-placed
returns-clause-placed c = λ version. if_built _ _ c.args.start.ahead c.add.result c.built.result c.built.ensures c.add.ensures.ok (λ id added.
    bare_read (spots_ahead c.args.reader.now.cursor) added)
