use Rattle.std.proofs.Common.{refl}
use Rattle.sf_text.specs.Parsing.Answers.{ahead}
use Rattle.sf_text.proofs.Parsing.Found.{keeps_self, expression_built, if_built, none_ready}
use Rattle.sf_text.proofs.Parsing.Placed.{none_event_read}
use Rattle.sf_text.proofs.parts.reader.Reader.no_event.Goals as goal

pub returns-clause-reads : goal.returns-clause-reads
returns-clause-reads c = λ whole counted.
    expression_built _ _ _ c.args.start.ahead c.constant.result c.built.result (none_ready c.args.version c.args.left (ahead c.args.self.now.cursor) c.in_ok-payload.ensures.reads c.no_event-constant.ensures) (keeps_self c.args.self.now.program) refl counted c.built.ensures c.constant.ensures tt

pub returns-clause-placed : goal.returns-clause-placed
returns-clause-placed c = if_built _ _ c.args.start.ahead c.constant.result c.built.result c.built.ensures c.constant.ensures.ok (λ id added. none_event_read c.args.left c.args.self.now.cursor.tokens.now c.type_within.new.self.tokens.now c.no_event-constant.ensures added c.in_ok-payload.ensures.reads c.in_ok-payload.ensures.behind)
