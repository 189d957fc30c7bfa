use Rattle.sf_differ.proofs.Told.{unsaid_on}
use Rattle.sf_check.proofs.differing.explain_network.Goals as goal

pub returns-in_err-names : goal.returns-in_err-names
returns-in_err-names c = unsaid_on _ _ _ c.from_residual.ensures.1
