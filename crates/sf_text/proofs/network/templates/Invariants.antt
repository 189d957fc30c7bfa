use Rattle.std.proofs.Common.{length}
use Rattle.sf_text.proofs.Behind.{Reached}
use Rattle.sf_text.proofs.network.templates.Given as goal

abbrev pub invariant-loop-version : goal.invariant-loop-version
invariant-loop-version l = Reached l.version l.fn.reader.cursor.tokens.now l.reader

abbrev pub decreases-loop-version : goal.decreases-loop-version
decreases-loop-version l = length l.reader.cursor.tokens.now
