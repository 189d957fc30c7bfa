-- A process that was frozen twice goes on as itself.
use Rattle.std.proofs.Common.{◌≡◌, ℕ, List, [], ◌∷◌, refl}
use Rattle.sf_value.specs.Values.{Name, Data}
use Rattle.sf_term.specs.declared.form.Start.{Start}
use Rattle.sf_term.specs.declared.form.Start.TheVariants.{Run, Fresh}
use Rattle.sf_mean.specs.Lives.{Step, Life, Process, closure, resumed, Environment, process_of, base, process_started, frozen, after}
use Rattle.sf_mean.specs.Meaning.{Network, Outcome, Cost, Gives, gives, Outputs, not_begun, and_gave, of_resumed}

-- what is frozen began as its process did
pub frozen_base : (P : Process) (h : Life) (d : ℕ) → base (frozen P h d) ≡ base P
frozen_base P [] d = refl
frozen_base P (s ∷ h) d = refl

-- what began as it did is its own base
base_again : (P : Process) → base (base P) ≡ base P
base_again (closure t e) = refl
base_again (resumed P h d) = base_again P

pub started_base : (w : Start) (k : Name) (e : Environment) → base (process_started w k e) ≡ base (process_of k e)
started_base Run k e = refl
started_base Fresh k e = base_again (process_of k e)

-- what a frozen process gives, its process gives
unfrozen : {n : Network} {P : Process} {h : Life} {d : ℕ} {s : Step} {L : Life} {o : Outcome} {c : Cost} → Gives n (resumed P h d) (s ∷ L) o c → Gives n P (after h d (s ∷ L)) o c
unfrozen (gives A (of_resumed B)) = B

-- a life that goes on after another has a newest step
data HasStep : Life → Type 0 where
  has_step : {s : Step} {L : Life} → HasStep (s ∷ L)

goes_on : (g : Life) (e : ℕ) (s : Step) (L : Life) → HasStep (after g e (s ∷ L))
goes_on g e s [] = has_step
goes_on g e s (r ∷ L) = has_step

unfrozen_within : {n : Network} {P : Process} {h M : Life} {d : ℕ} {o : Outcome} {c : Cost} → HasStep M → Gives n (resumed P h d) M o c → Gives n P (after h d M) o c
unfrozen_within has_step A = unfrozen A

pub restarted : {n : Network} {P : Process} {h g L : Life} {d e : ℕ} {s : Step} {o : Outcome} {c : Cost} → Gives n (resumed (resumed P h d) g e) (s ∷ L) o c → Gives n P (after h d (after g e (s ∷ L))) o c
restarted {g = g} {L = L} {e = e} {s = s} A = unfrozen_within (goes_on g e s L) (unfrozen A)

-- the values of a process on a life that goes on after h are there too where it was frozen after h
frozen_outputs : {n : Network} {P : Process} {h : Life} {d : ℕ} {ys : List Data} (s : Step) (L : Life) → Outputs n P (after h d (s ∷ L)) ys → (zs : List Data) × Outputs n (resumed P h d) (s ∷ L) zs
frozen_outputs s [] (and_gave O A) = (_, and_gave not_begun (of_resumed (gives O A)))
frozen_outputs s (r ∷ L) (and_gave O A) = let before = frozen_outputs r L O in (_, and_gave before.1 (of_resumed (gives O A)))

-- what a process gives on a life that goes on after h, it gives where it was frozen after h
refrozen : {n : Network} {P : Process} {h : Life} {d : ℕ} {o : Outcome} {c : Cost} (s : Step) (L : Life) → Gives n P (after h d (s ∷ L)) o c → Gives n (resumed P h d) (s ∷ L) o c
refrozen s [] A = gives not_begun (of_resumed A)
refrozen s (r ∷ L) (gives O A) = let before = frozen_outputs r L O in gives before.1 (of_resumed (gives O A))

refrozen_within : {n : Network} {P : Process} {h M : Life} {d : ℕ} {o : Outcome} {c : Cost} → HasStep M → Gives n P (after h d M) o c → Gives n (resumed P h d) M o c
refrozen_within has_step A = refrozen _ _ A

pub started_again : {n : Network} {P : Process} {h g L : Life} {d e : ℕ} {s : Step} {o : Outcome} {c : Cost} → Gives n P (after h d (after g e (s ∷ L))) o c → Gives n (resumed (resumed P h d) g e) (s ∷ L) o c
started_again {g = g} {L = L} {e = e} {s = s} A = refrozen s L (refrozen_within (goes_on g e s L) A)
