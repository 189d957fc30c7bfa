use Rattle.sf_text.specs.Parsing.Answers.{ahead}
use Rattle.sf_text.proofs.Parsing.Found.{keeps_self}
use Rattle.sf_text.proofs.Found.{collection_shared, empty_found}
use Rattle.sf_text.proofs.Placed.{shared_placed, empty_read}
use Rattle.sf_text.proofs.term.empty.Goals as goal

pub returns-clause-reads : goal.returns-clause-reads
returns-clause-reads c = collection_shared c.shared.result c.shared.ensures.ok c.shared.ensures.err
    (empty_found c.args.version c.args.left (ahead c.args.reader.now.cursor) (keeps_self c.args.reader.now.program) c.in_ok-keys.ensures.reads c.in_ok-values.ensures.reads)

pub returns-clause-placed : goal.returns-clause-placed
returns-clause-placed c = shared_placed c.shared.result c.shared.ensures.ok
    (empty_read c.args.left c.args.reader.now.cursor.tokens.now c.keys.new.self.tokens.now c.type_within.new.self.tokens.now c.in_ok-keys.ensures.reads c.in_ok-values.ensures.reads c.in_ok-keys.ensures.behind c.in_ok-values.ensures.behind)
