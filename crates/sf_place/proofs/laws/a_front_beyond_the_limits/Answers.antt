use Rattle.sf_place.proofs.Beyond.{beyond, beyond_refused, beyond_limits}
use Rattle.sf_place.proofs.laws.a_front_beyond_the_limits.Goals as goal

pub returns : goal.returns
returns c = (beyond, beyond_refused, beyond_limits)
