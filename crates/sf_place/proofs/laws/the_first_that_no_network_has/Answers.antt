use Rattle.sf_place.proofs.Bytes.{refused_from}
use Rattle.sf_place.proofs.laws.the_first_that_no_network_has.Goals as goal

pub returns : goal.returns
returns c = refused_from
