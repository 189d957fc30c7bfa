use Rattle.std.proofs.Common.{refl, arith, inl, inr}
use Rattle.sf_meter.specs.Meters.{refused}
use Rattle.sf_meter.proofs.Ticking.{ticks_so}
use Rattle.sf_meter.proofs.meter.Meter.tick.Goals as goal
use Rattle.sf_meter.proofs.meter.Meter.tick.Goals.{then-self-ge-MOST_NODES-via-then-self-ge-MOST_NODES, then-self-ge-MOST_NODES-via-else-self-ge-MOST_NODES+then-depth-ge-MOST_HEIGHT}

pub returns-then-self-ge-MOST_NODES-clause-ticked : goal.returns-then-self-ge-MOST_NODES-clause-ticked
returns-then-self-ge-MOST_NODES-clause-ticked c =
    elim c.then-self-ge-MOST_NODES.branch [ then-self-ge-MOST_NODES-via-then-self-ge-MOST_NODES w ↦ rw c.stop.ensures.fault (refused {m = c.args.self.now} {depth = c.args.depth} (inl (omega arith)) c.stop.ensures.entered c.stop.ensures.height) | then-self-ge-MOST_NODES-via-else-self-ge-MOST_NODES+then-depth-ge-MOST_HEIGHT w ↦ rw c.stop.ensures.fault (refused {m = c.args.self.now} {depth = c.args.depth} (inr (omega arith)) c.stop.ensures.entered c.stop.ensures.height) ]

pub returns-then-self-inside-clause-ticked : goal.returns-then-self-inside-clause-ticked
returns-then-self-inside-clause-ticked c = ticks_so _ _ _ refl (omega arith) refl

pub returns-else-self-inside-clause-ticked : goal.returns-else-self-inside-clause-ticked
returns-else-self-inside-clause-ticked c = ticks_so _ _ _ refl (omega arith) refl
