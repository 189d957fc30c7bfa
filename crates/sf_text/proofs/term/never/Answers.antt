use Rattle.sf_text.specs.Parsing.Answers.{ahead}
use Rattle.sf_text.proofs.Found.{term_built, never_ready}
use Rattle.sf_text.proofs.Placed.{never_read}
use Rattle.sf_text.proofs.Parsing.Found.{if_built, keeps_self}
use Rattle.sf_text.proofs.term.never.Goals as goal

pub returns-clause-reads : goal.returns-clause-reads
returns-clause-reads c = λ whole counted.
    term_built _ _ _ c.args.start.ahead c.never.result c.built.result
    (never_ready c.args.version c.args.left (ahead c.args.reader.now.cursor) c.requires.shallow c.in_ok-payload.ensures.reads)
    (keeps_self c.args.reader.now.program) counted c.built.ensures c.never.ensures tt

pub returns-clause-placed : goal.returns-clause-placed
returns-clause-placed c = if_built _ _ c.args.start.ahead c.never.result c.built.result c.built.ensures c.never.ensures.ok (λ id added.
    never_read c.args.left c.args.reader.now.cursor.tokens.now c.type_within.new.self.tokens.now added c.in_ok-payload.ensures.reads c.in_ok-payload.ensures.behind)
