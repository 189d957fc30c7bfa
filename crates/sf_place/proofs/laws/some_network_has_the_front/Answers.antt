use Rattle.sf_place.proofs.Networks.{refused_leads}
use Rattle.sf_place.proofs.laws.some_network_has_the_front.Goals as goal

pub returns : goal.returns
returns c = refused_leads
