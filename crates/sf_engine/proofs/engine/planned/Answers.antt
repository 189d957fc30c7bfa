use Rattle.sf_optimise.proofs.Forms.{ok_then}
use Rattle.sf_engine.proofs.Planned.{plain_runs, optimised_runs}
use Rattle.sf_engine.proofs.engine.planned.Goals as goal

pub returns-in-Plain : goal.returns-in-Plain
returns-in-Plain c = ok_then c.plain.result (λ p P. plain_runs c.args.checked.now p P) c.plain.ensures

pub returns-in-Optimised : goal.returns-in-Optimised
returns-in-Optimised c = ok_then c.optimise.result (λ p P. optimised_runs c.args.checked.now p P) c.optimise.ensures
