use Rattle.sf_spelling.proofs.Together.{same_value}
use Rattle.sf_spelling.proofs.laws.same_value.Goals as goal

pub returns : goal.returns
returns c = same_value
