-- What sums and timers keep of their lives.
use Rattle.std.specs.Prelude.{◌≡◌, ℕ, ◌-◌, ◌%◌, nat_le, Bool, cond, ℤ, pos, Some, None}
use Rattle.sf_value.specs.Values.{Data, number, event}
use Rattle.sf_mean.specs.Lives.{Life, time}
use Rattle.sf_mean.specs.Formulas.{before, level, area, has_passed, span}
use Rattle.sf_delay.specs.Lately.{has_steps, waited}
use Rattle.sf_delay.specs.declared.sum.Sum.{Sum}
use Rattle.sf_delay.specs.declared.timer.Timer.{Timer}
use Rattle.sf_delay.specs.declared.ticker.Ticker.{Ticker}

-- whether nothing is left of a timer's time at a sample, so long after the one before
abbrev pub is_up : Timer → ℕ → Bool
is_up t d = nat_le t.left (waited t.begun d)

-- A sum keeps what `integral` needs of a life.
pub record Sums (r : Sum) (L : Life) : Type 0 where
  pub sum : r.sum ≡ area L
  pub level : r.level ≡ level (before (number (pos 0)) L)

-- A timer keeps what `after` needs of a life, with a time and the value of its event.
pub record RunsDown (t : Timer) (q : ℤ) (v : Data) (L : Life) : Type 0 where
  pub due : t.due ≡ cond (has_passed q L) None (Some v)
  pub begun : t.begun ≡ has_steps L
  pub left : t.left ≡ span q - time L

-- A ticker keeps what `repeatedly` needs of a life, with a time and the value of its events.
pub record TicksOn (t : Ticker) (q : ℤ) (v : Data) (L : Life) : Type 0 where
  pub event : t.event ≡ event v
  pub begun : t.begun ≡ has_steps L
  pub period : t.period ≡ span q
  pub left : t.left ≡ span q - time L % span q
