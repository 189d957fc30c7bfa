use Rattle.sf_spelling.proofs.Settled.{answer, reads}
use Rattle.std.proofs.Common.{length}
use Rattle.sf_spelling.specs.Scan.{scanned_value}
use Rattle.sf_spelling.proofs.laws.some_reading.Goals as goal

pub returns : goal.returns
returns c = λ t bytes. (answer (length bytes) (scanned_value t bytes), reads t bytes)
