use Rattle.sf_place.proofs.Only.{one_place}
use Rattle.sf_place.proofs.laws.the_place_is_one.Goals as goal

pub returns : goal.returns
returns c = one_place
