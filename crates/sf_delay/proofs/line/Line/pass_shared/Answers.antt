use Rattle.std.proofs.Common.{refl}
use Rattle.sf_delay.proofs.Turns.{shared_turned, shared_stays, shared_ends}
use Rattle.sf_delay.proofs.line.Line.pass_shared.Goals as goal

pub loop-first-preserved : goal.loop-first-preserved
loop-first-preserved c = shared_turned c.args.self.now c.loop-first.self c.take_shared.new.self c.hold.new.self c.args.time c.loop-first.left c.left-left.result c.in-Now.first c.in_ok-first.ensures.rest (rw c.in-Now.is at c.in_ok-first.ensures.taken) c.left-left.ensures.left c.hold.ensures c.loop-first.invariant

pub returns-in-Later-clause-passes : goal.returns-in-Later-clause-passes
returns-in-Later-clause-passes c = shared_stays c.args.self.now c.loop-first.self c.take_shared.new.self c.args.time c.loop-first.left c.in_ok-first.ensures.rest (rw c.in-Later.is at c.in_ok-first.ensures.taken) c.loop-first.invariant

pub returns-in-NoneLeft-clause-passes : goal.returns-in-NoneLeft-clause-passes
returns-in-NoneLeft-clause-passes c = shared_ends c.args.self.now c.loop-first.self c.take_shared.new.self c.pass_own.new.self c.args.time c.loop-first.left c.in_ok-first.ensures.rest (rw c.in-NoneLeft.is at c.in_ok-first.ensures.taken) (c.pass_own.ensures.passes refl) c.loop-first.invariant
