use Rattle.std.proofs.Common.{◌+◌, ◌≤◌, length, vec_len, vec_capacity}
use Rattle.sf_engine.proofs.Following.{Goes}
use Rattle.sf_engine.proofs.engine.Engine.follow.Given as goal

abbrev pub invariant-loop-dt : goal.invariant-loop-dt
invariant-loop-dt g l =
    (vec_len l.samples + length l.dt-iterator.rest.items ≤ vec_capacity l.samples)
    × Goes l.fn.self l.self l.fn.steps.items l.dt-iterator.rest.items l.fn.samples.items l.samples.items
