use Rattle.sf_engine.proofs.Planned.{plain_runs, optimised_runs, run_takes}
use Rattle.sf_engine.proofs.laws.counted_work.Goals as goal

pub returns-clause-written : goal.returns-clause-written
returns-clause-written c = λ φ k p L r s m plan. run_takes φ k p (plain_runs k p plan φ) L r s m

pub returns-clause-rewritten : goal.returns-clause-rewritten
returns-clause-rewritten c = λ φ k p L r s m plan. run_takes φ k p (optimised_runs k p plan φ) L r s m
