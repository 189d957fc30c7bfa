-- Inputs that copies of a line share, in order.
use Rattle.std.specs.Prelude.{◌≡◌, ℕ, ◌+◌, ◌^◌, ◌<◌, ◌≤◌, List, [], ◌∷◌, ◌++◌, reverse, Option, Some, None}
use Rattle.sf_delay.specs.declared.queue.Pending.{Pending}
use Rattle.sf_delay.specs.declared.queue.Stack.{Stack}
use Rattle.sf_delay.specs.declared.queue.Stack.TheVariants.{Empty, Top'}
use Rattle.sf_delay.specs.declared.queue.Shared.{Shared}
use Rattle.sf_delay.specs.declared.queue.Turn.{Turn}
use Rattle.sf_delay.specs.declared.queue.Turn.TheVariants.{Now, Later, NoneLeft}

-- those of a stack, from the top
abbrev pub stacked : Stack → List Pending
stacked Empty = []
stacked (Top' at p below) = p ∷ stacked below

-- the older ones, and then the newer ones, from the bottom
abbrev pub shared_ones : Shared → List Pending
shared_ones s = stacked s.older ++ reverse (stacked s.newer)

-- the same where there are any
abbrev pub kept_shared : Option Shared → List Pending
kept_shared None = []
kept_shared (Some s) = shared_ones s

-- there is a first of these samples, and its turn is still to come at a time that fits 64 bits
abbrev pub IsLater : ℕ → List Pending → Type 0
IsLater t [] = ⊥
IsLater t (r ∷ rs) = (t < r.after) × (t < 2 ^ 64)

-- The first of some samples is taken where its turn has come when so much time more has passed; else they stay.
abbrev pub TakesDue : List Pending → ℕ → ℕ → Turn → List Pending → Type 0
TakesDue old passed time (Now r) new = (old ≡ r ∷ new) × (r.after ≤ passed + time)
TakesDue old passed time Later new = (new ≡ old) × IsLater (passed + time) old
TakesDue old passed time NoneLeft new = (new ≡ old) × (old ≡ [])
