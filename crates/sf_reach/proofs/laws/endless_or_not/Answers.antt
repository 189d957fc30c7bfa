use Rattle.sf_reach.proofs.Lawful.{one_or_nowhere, endless_somewhere}
use Rattle.sf_reach.proofs.laws.endless_or_not.Goals as goal

pub returns-clause-one : goal.returns-clause-one
returns-clause-one c = one_or_nowhere

pub returns-clause-not_both : goal.returns-clause-not_both
returns-clause-not_both c = endless_somewhere
