use Rattle.sf_place.proofs.Stops.{stays}
use Rattle.sf_place.proofs.laws.the_place_is_local.Goals as goal

pub returns : goal.returns
returns c = stays
