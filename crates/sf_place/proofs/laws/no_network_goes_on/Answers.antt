use Rattle.sf_place.proofs.Networks.{goes_no_further}
use Rattle.sf_place.proofs.laws.no_network_goes_on.Goals as goal

pub returns : goal.returns
returns c = goes_no_further
