use Rattle.sf_reach.proofs.Lawful.{endless_once}
use Rattle.sf_reach.proofs.laws.one_endless_call.Goals as goal

pub returns : goal.returns
returns c = endless_once
