use Rattle.std.proofs.Common.{length}
use Rattle.sf_spelling.proofs.read.+word_by_bytes.Given as goal

abbrev pub decreases-word_by_bytes : goal.decreases-word_by_bytes
decreases-word_by_bytes l = length l.word.now
