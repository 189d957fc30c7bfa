-- Costs that are no higher, and what keeps them so.
use Rattle.std.proofs.Common.{◌≤◌, [], ◌∷◌, Bool, true, false, IsTrue, arith}
use Rattle.sf_term.specs.Trees.{Extent, whole, rest}
use Rattle.sf_mean.specs.Lives.{Life}
use Rattle.sf_mean.specs.Meaning.{Cost, count, height, both_costs, over, over_first, over_stages}
use Rattle.sf_rewrite.proofs.Parts.{no_truth}

-- the second is no higher than the first; nothing, where d is false
pub record Below (d : Bool) (a b : Cost) : Type 0 where
  pub counts : IsTrue d → count b ≤ count a
  pub heights : IsTrue d → height b ≤ height a

pub data Lowered (d : Bool) (R : Cost → Type 0) (a : Cost) : Type 0 where
  lowered : {b : Cost} → R b → Below d a b → Lowered d R a

pub below_same : (d : Bool) (a : Cost) → Below d a a
below_same d a = record { counts = λ h. omega arith; heights = λ h. omega arith }

pub below_any : (a b : Cost) → Below false a b
below_any a b = record { counts = λ h. absurd (no_truth h); heights = λ h. absurd (no_truth h) }

pub below : {a b : Cost} → count b ≤ count a → height b ≤ height a → Below true a b
below x y = record { counts = λ h. x; heights = λ h. y }

pub below_trans : {d : Bool} {a b c : Cost} → Below d a b → Below d b c → Below d a c
below_trans p q = record { counts = λ h. omega (arith, p.counts h, q.counts h); heights = λ h. omega (arith, p.heights h, q.heights h) }

pub below_over : {d : Bool} (a b : Cost) → Below d a b → Below d (over a) (over b)
below_over a b p = record { counts = λ h. omega (arith, p.counts h); heights = λ h. omega (arith, p.heights h) }

pub below_both : {d : Bool} (a b x y : Cost) → Below d a b → Below d x y → Below d (both_costs a x) (both_costs b y)
below_both a b x y p q = record { counts = λ h. omega (arith, p.counts h, q.counts h); heights = λ h. omega (arith, p.heights h, q.heights h) }

pub below_stages : {d : Bool} (x : Extent) (a b : Cost) → Below d a b → Below d (over_stages x a) (over_stages x b)
below_stages whole a b p = below_over a b p
below_stages rest a b p = p

pub below_first : {d : Bool} (L : Life) (a b : Cost) → Below d a b → Below d (over_first L a) (over_first L b)
below_first [] a b p = below_over a b p
below_first (s ∷ L) a b p = p
