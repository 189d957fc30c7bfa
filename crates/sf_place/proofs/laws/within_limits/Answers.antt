use Rattle.sf_place.proofs.Networks.{limits_spell}
use Rattle.sf_place.proofs.laws.within_limits.Goals as goal

pub returns : goal.returns
returns c = limits_spell
