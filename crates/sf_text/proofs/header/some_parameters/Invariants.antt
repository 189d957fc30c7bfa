use Rattle.std.proofs.Common.{length}
use Rattle.sf_text.specs.Parsing.Answers.{ahead}
use Rattle.sf_text.specs.Parsing.Consuming.{spots_ahead}
use Rattle.sf_text.proofs.Lists.{ReadParameters}
use Rattle.sf_text.proofs.header.some_parameters.Given as goal

abbrev pub invariant-loop-more : goal.invariant-loop-more
invariant-loop-more l = ReadParameters l.version l.fn.cursor.tokens.now l.parameters.items l.more (ahead l.cursor) (spots_ahead l.cursor)

abbrev pub decreases-loop-more : goal.decreases-loop-more
decreases-loop-more l = length l.cursor.tokens.now
