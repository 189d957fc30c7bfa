use Rattle.std.proofs.Common.{◌≡◌, ◌++◌}
use Rattle.std.specs.Prelude.{reverse}
use Rattle.sf_delay.specs.Queues.{stacked}
use Rattle.sf_delay.proofs.queue.Stack.turned_over.Given as goal

abbrev pub invariant-loop-rest : goal.invariant-loop-rest
invariant-loop-rest l = reverse (stacked l.initial.rest) ≡ reverse (stacked l.rest) ++ stacked l.turned
