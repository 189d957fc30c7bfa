use Rattle.std.proofs.Common.{refl, sym, ◌∙◌}
use Rattle.sf_delay.proofs.Turns.{shorter, turned, stays, ends}
use Rattle.sf_delay.proofs.line.Line.pass_own.Goals as goal

pub returns-then-left-wait-clause-passes : goal.returns-then-left-wait-clause-passes
returns-then-left-wait-clause-passes c = λ alone. (stays c.args.self.now c.loop-wait.self c.args.time c.loop-wait.left c.in-Some.wait c.loop-wait.self.young.items refl c.in-Some.ensures.next c.if-left-wait.true (c.loop-wait.invariant.0 ∙ alone) (c.loop-wait.invariant.1 alone)).0

pub returns-then-left-wait-clause-to_come : goal.returns-then-left-wait-clause-to_come
returns-then-left-wait-clause-to_come c = λ alone. (stays c.args.self.now c.loop-wait.self c.args.time c.loop-wait.left c.in-Some.wait c.loop-wait.self.young.items refl c.in-Some.ensures.next c.if-left-wait.true (c.loop-wait.invariant.0 ∙ alone) (c.loop-wait.invariant.1 alone)).1

pub loop-wait-smaller : goal.loop-wait-smaller
loop-wait-smaller c = shorter c.loop-wait.self c.take_turn.new.self c.in-Some.wait c.loop-wait.self.young.items refl c.in-Some.ensures.next c.take_turn.ensures.turn

pub loop-wait-preserved : goal.loop-wait-preserved
loop-wait-preserved c = (
  c.take_turn.ensures.shared ∙ c.loop-wait.invariant.0,
  λ alone. turned c.args.self.now c.loop-wait.self c.take_turn.new.self c.args.time c.loop-wait.left c.in-Some.wait c.loop-wait.self.young.items refl c.in-Some.ensures.next c.if-left-wait.false c.take_turn.ensures.turn (c.loop-wait.invariant.0 ∙ alone) (c.loop-wait.invariant.1 alone),
)

pub returns-clause-passes : goal.returns-clause-passes
returns-clause-passes c = λ alone. (ends c.args.self.now c.loop-wait.self c.args.time c.loop-wait.left c.loop-wait.self.young.items refl (sym c.in_default.is ∙ c.wait.ensures.next) (c.loop-wait.invariant.0 ∙ alone) (c.loop-wait.invariant.1 alone)).0

pub returns-clause-to_come : goal.returns-clause-to_come
returns-clause-to_come c = λ alone. (ends c.args.self.now c.loop-wait.self c.args.time c.loop-wait.left c.loop-wait.self.young.items refl (sym c.in_default.is ∙ c.wait.ensures.next) (c.loop-wait.invariant.0 ∙ alone) (c.loop-wait.invariant.1 alone)).1
