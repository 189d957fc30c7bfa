use Rattle.sf_check.proofs.Decided.{network_decided}
use Rattle.sf_check.proofs.Accepted.{refused_network}
use Rattle.sf_check.proofs.laws.accepted_or_refused.Goals as goal

pub returns-clause-one : goal.returns-clause-one
returns-clause-one c = λ fs p fit. network_decided p fs fit

pub returns-clause-not_both : goal.returns-clause-not_both
returns-clause-not_both c = refused_network
