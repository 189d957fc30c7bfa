-- How time lasts.
use Rattle.std.proofs.Common.{◌≡◌, ℕ, ◌+◌, [], ◌∷◌, refl}
use Rattle.sf_value.specs.Values.{Data}
use Rattle.sf_mean.specs.Lives.{step, Life, time}
use Rattle.sf_delay.specs.Lately.{has_steps, waited}

-- the time at a further step
pub time_grows : (d : ℕ) (x : Data) (L : Life) → time L + waited (has_steps L) d ≡ time (step d x ∷ L)
time_grows d x [] = refl
time_grows d x (s ∷ L) = refl
