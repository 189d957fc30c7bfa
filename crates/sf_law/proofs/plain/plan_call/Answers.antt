use Rattle.sf_law.specs.Copies.{copies_call}
use Rattle.sf_law.proofs.plain.plan_call.Goals as goal

pub returns-clause-same : goal.returns-clause-same
returns-clause-same c = copies_call {a = c.args.arguments} {v = c.in_ok-arguments.arguments} (rw (← c.arguments.ensures) c.in_ok-arguments.ensures.same)
