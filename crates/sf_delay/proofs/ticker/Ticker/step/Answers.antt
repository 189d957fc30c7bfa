use Rattle.std.proofs.Common.{◌<◌, arith, inl, inr, refl}
use Rattle.sf_delay.proofs.Ticking.{ticks_on, ticks_over}
use Rattle.sf_delay.proofs.ticker.Ticker.step.Goals as goal
use Rattle.sf_delay.proofs.ticker.Ticker.step.Goals.{then-self-eq0-via-then-self-eq0, then-self-eq0-via-else-self-eq0+then-waited-self}

pub returns-then-self-eq0-clause-kept : goal.returns-then-self-eq0-clause-kept
returns-then-self-eq0-clause-kept c = λ q v L k.
    (ticks_on c.args.self.now q v c.args.dt c.args.value.now L c.waited-waited.result c.waited-waited.ensures k c.saturating_sub-self.result c.saturating_sub-self.ensures
    (elim c.then-self-eq0.branch [
      | then-self-eq0-via-then-self-eq0 w ↦ inl w.if-self-eq0.true
      | then-self-eq0-via-else-self-eq0+then-waited-self w ↦ inr w.if-waited-self.true
    ])).0

pub returns-clause-kept : goal.returns-clause-kept
returns-clause-kept c = λ q v L k.
    let some : 0 < c.args.self.now.period = omega (arith, c.if-self-eq0.false) in
    (ticks_over c.args.self.now q v c.args.dt c.args.value.now L c.waited-waited.result c.waited-waited.ensures k _ refl some c.if-waited-self.false).0
