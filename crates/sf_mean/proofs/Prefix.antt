-- Each proper prefix of a life gives a value.
use Rattle.std.proofs.Common.{List, ◌∷◌}
use Rattle.sf_value.specs.Values.{Data}
use Rattle.sf_mean.specs.Lives.{Step, Life, Process}
use Rattle.sf_mean.specs.Meaning.{Network, Outcome, Cost, Gives, gives, Outputs}

pub prefix : {n : Network} {P : Process} {s : Step} {L : Life} {o : Outcome} {c : Cost} → Gives n P (s ∷ L) o c → (ys : List Data) × Outputs n P L ys
prefix (gives A B) = (_, A)
