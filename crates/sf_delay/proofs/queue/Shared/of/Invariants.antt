use Rattle.std.proofs.Common.{◌≡◌, ◌++◌, map}
use Rattle.sf_delay.specs.Queues.{shared_ones}
use Rattle.sf_delay.proofs.queue.Shared.of.Given as goal

abbrev pub invariant-loop-sample : goal.invariant-loop-sample
invariant-loop-sample l = shared_ones l.copy ≡ shared_ones l.initial.copy ++ map (λ x. x.now) l.yielded
