use Rattle.std.proofs.Common.{arith}
use Rattle.sf_law.proofs.Extended.{tree_past}
use Rattle.sf_law.proofs.plan.Plan.passing.Goals as goal

pub returns : goal.returns
returns c = tree_past c.args.self.now (record { 0 = c.len.result }) (omega (arith, c.len.ensures))
