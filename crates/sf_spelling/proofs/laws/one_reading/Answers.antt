use Rattle.sf_spelling.proofs.Unique.{one_reading}
use Rattle.sf_spelling.proofs.laws.one_reading.Goals as goal

pub returns : goal.returns
returns c = one_reading
