use Rattle.sf_refusal.specs.Refusals.{no_memory}
use Rattle.sf_check.proofs.checker.check.Goals as goal

pub returns-in-Err-clause-refused : goal.returns-in-Err-clause-refused
returns-in-Err-clause-refused g c = no_memory
