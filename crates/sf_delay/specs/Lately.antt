-- How long ago the sample before was.
use Rattle.std.specs.Prelude.{ℕ, Bool, true, false, cond}
use Rattle.sf_mean.specs.Lives.{Life}
use Rattle.sf_mean.specs.Formulas.{at_first}

-- whether there is a step
abbrev pub has_steps : Life → Bool
has_steps L = at_first L false true

-- the milliseconds since the sample before; none where there was none
abbrev pub waited : Bool → ℕ → ℕ
waited b d = cond b d 0
