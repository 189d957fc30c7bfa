-- What is wanted where types do not fit.
use Rattle.std.specs.Prelude.{◌≡◌, Option, Some, None, IsTrue, ⊤}
use Rattle.sf_value.specs.Values.{KeyKind, Kind, pair_kind, event_kind, table_kind}
use Rattle.sf_refusal.specs.declared.spot.Spot.{Spot}
use Rattle.sf_refusal.specs.declared.refusal.Refusal.{Refusal}
use Rattle.sf_refusal.specs.declared.refusal.Refusal.TheVariants as refusals
use Rattle.sf_operator.specs.Kinds.{is_ordered}
use Rattle.sf_differ.specs.declared.difference.Wanted.{Wanted}
use Rattle.sf_differ.specs.declared.difference.Wanted.TheVariants.{Exactly, Pair, PairWith, Event, EventBeside, Table, Ordered}
use Rattle.sf_differ.specs.declared.difference.Difference.{Difference}
use Rattle.sf_differ.specs.declared.blame.Blame.{Blame}
use Rattle.sf_differ.specs.declared.blame.Blame.TheVariants.{Differs, Silent, Memory}

-- a type is one of those that are wanted
abbrev pub Suits : Wanted → Kind → Type 0
Suits (Exactly u) t = t ≡ u
Suits Pair t = (a : Kind) × (b : Kind) × (t ≡ pair_kind a b)
Suits (PairWith u) t = (a : Kind) × (t ≡ pair_kind a u)
Suits Event t = (a : Kind) × (t ≡ event_kind a)
Suits EventBeside t = (a : Kind) × (b : Kind) × (t ≡ pair_kind a (event_kind b))
Suits Table t = (k : KeyKind) × (a : Kind) × (t ≡ table_kind k a)
Suits Ordered t = IsTrue (is_ordered t)

-- the same, or any type will do
abbrev pub SuitsAny : Option Wanted → Kind → Type 0
SuitsAny None t = ⊤
SuitsAny (Some w) t = Suits w t

-- These are the types that can stand in a place.
pub record AreWanted (can : Kind → Type 0) (w : Wanted) : Type 0 where
  pub only : (t : Kind) → can t → Suits w t
  pub all : (t : Kind) → Suits w t → can t

-- these are, or all types can
abbrev pub WantsAny : (Kind → Type 0) → Option Wanted → Type 0
WantsAny can None = (t : Kind) → can t
WantsAny can (Some w) = AreWanted can w

-- Found is a type at a spot that is none of those that are wanted.
pub record IsOther (w : Option Wanted) (s : Spot) (t : Kind) (d : Difference) : Type 0 where
  pub at : d.spot ≡ s
  pub found : d.found ≡ t
  pub wanted : w ≡ Some d.wanted
  pub other : Suits d.wanted t → ⊥

-- Found is a type at a spot that can't stand there, and wanted are those that can.
pub record DiffersAt (can : Kind → Type 0) (s : Spot) (t : Kind) (d : Difference) : Type 0 where
  pub at : d.spot ≡ s
  pub found : d.found ≡ t
  pub wants : AreWanted can d.wanted
  pub other : Suits d.wanted t → ⊥

-- What is said to differ does so; else nothing is said.
pub data Explains (P : Difference → Type 0) : Blame → Type 0 where
  tells : {d : Difference} → P d → Explains P (Differs d)
  tells_nothing : Explains P Silent
  lacks_room : Explains P Memory

-- of a rule that is broken nothing is said; want of memory stays one
abbrev pub left_unsaid : Refusal → Blame
left_unsaid (refusals.Broken b) = Silent
left_unsaid refusals.Memory = Memory
