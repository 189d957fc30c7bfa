use Rattle.std.proofs.Common.{length, subst, sym}
use Rattle.sf_text.specs.declared.parts.stop.Stop.{Stop}
use Rattle.sf_text.specs.Parsing.Answers.{ahead, counts_of, StopsReading}
use Rattle.sf_grammar.specs.Reading.{parse_function}
use Rattle.sf_text.proofs.Parsing.Found.{function_shallow, refused_for_memory}
use Rattle.sf_text.proofs.Parsing.Placed.{function_read}
use Rattle.sf_text.proofs.parts.reader.Reader.function.Goals as goal

pub returns-in-Err-clause-reads : goal.returns-in-Err-clause-reads
returns-in-Err-clause-reads c =
    let read = parse_function c.args.left c.args.version (counts_of c.args.self.now.program) (ahead c.args.self.now.cursor) in
    subst (λ (e : Stop). StopsReading e read) (sym c.refused.ensures)
    (refused_for_memory _ read c.in-Err.refusal (length c.args.self.now.cursor.tokens.now) c.in-Err.ensures.refused.due
    (function_shallow c.args.version c.args.left (ahead c.args.self.now.cursor) c.requires.shallow c.in_ok-pattern.ensures.reads) c.in_ok-pattern.ensures.reads.names)

pub returns-in-Ok-clause-placed : goal.returns-in-Ok-clause-placed
returns-in-Ok-clause-placed c = function_read c.in-Ok.ensures.ok c.in_ok-pattern.ensures.placed
