use Rattle.std.proofs.Common.{w64, subst}
use Rattle.std.specs.Prelude.{ℤ, []}
use Rattle.std.proofs.lemmas.Int.{to_z-of_z}
use Rattle.sf_delay.specs.Waits.{RunsDown, TicksOn}
use Rattle.sf_delay.specs.Delays.{Delays}
use Rattle.sf_prim.specs.Remembering.{remembers_timer, remembers_ticker, remembers_line}
use Rattle.sf_prim.proofs.prim_state.PrimState.timed.Goals as goal

pub returns-in_ok-timer-in-After : goal.returns-in_ok-timer-in-After
returns-in_ok-timer-in-After c = λ s e h.
    let is = c.in_ok-timer-in-After.ensures.ok in
    rw (c.in-After.is, is) (remembers_timer h (subst (λ (z : ℤ). RunsDown c.born.result z c.args.value []) (to_z-of_z w64 c.args.time c.ranges.time) c.born.ensures))

pub returns-in_ok-ticking-in-Repeatedly : goal.returns-in_ok-ticking-in-Repeatedly
returns-in_ok-ticking-in-Repeatedly c = λ s e h.
    let is = c.in_ok-ticking-in-Repeatedly.ensures.ok in
    rw (c.in-Repeatedly.is, is) (remembers_ticker h (subst (λ (z : ℤ). TicksOn c.in_ok-ticker-in-Repeatedly.ticker z c.args.value []) (to_z-of_z w64 c.args.time c.ranges.time) c.in_ok-ticker-in-Repeatedly.ensures))

pub returns-in_ok-line-in-Delay : goal.returns-in_ok-line-in-Delay
returns-in_ok-line-in-Delay c = λ s e h.
    let is = c.in_ok-line-in-Delay.ensures.ok in
    rw (c.in-Delay.is, is) (remembers_line h (subst (λ (z : ℤ). Delays c.born-in-Delay.result z c.args.value []) (to_z-of_z w64 c.args.time c.ranges.time) c.born-in-Delay.ensures))
