-- Calls that lead back to the template in which they stand.
use Rattle.std.specs.Prelude.{◌≡◌, ℕ, ◌<◌, List, ◌∷◌, All, Some, slice_get, ◌⊎◌}
use Rattle.sf_value.specs.Values.{Name}
use Rattle.sf_refusal.specs.declared.spot.Spot.{Spot}
use Rattle.sf_term.specs.declared.program.Program.{Program}
use Rattle.sf_term.specs.Headers.{Header}
use Rattle.sf_term.specs.Trees.{Templates}
use Rattle.sf_term.specs.Arena.{headers_of, templates_of}
use Rattle.sf_mean.specs.Calls.{ReachesTemplate}
use Rattle.sf_reach.specs.Order.{PlacedCall, CallsInOrder}

-- a call that stands in the template of a name is one of that template, or of one that reaches it
abbrev pub IsEndless : Templates → Name → PlacedCall → Type 0
IsEndless ts x c = (c.name ≡ x) ⊎ ReachesTemplate ts c.name x

-- An item is the first of a list with a property.
pub data IsFirstWith {X : Type 0} (P : X → Type 0) : List X → X → Type 0 where
  here : {x : X} {xs : List X} → P x → IsFirstWith P (x ∷ xs) x
  further : {x y : X} {xs : List X} → ¬ P y → IsFirstWith P xs x → IsFirstWith P (y ∷ xs) x

-- no call in the template at a place is endless
abbrev pub HasNoEndlessCall : Program → ℕ → Type 0
HasNoEndlessCall p i = (h : Header) (cs : List PlacedCall) → slice_get (headers_of p) i ≡ Some h → CallsInOrder p h.body cs → All (λ c. ¬ IsEndless (templates_of p) h.name c) cs

-- At a spot stands the first endless call of a program, in the order of its text.
pub record IsFirstEndlessCall (p : Program) (s : Spot) : Type 0 where
  pub place : ℕ
  pub header : Header
  pub at : slice_get (headers_of p) place ≡ Some header
  pub calls : List PlacedCall
  pub in_order : CallsInOrder p header.body calls
  pub call : PlacedCall
  pub first : IsFirstWith (IsEndless (templates_of p) header.name) calls call
  pub before : (i : ℕ) → i < place → HasNoEndlessCall p i
  pub stands : call.spot ≡ s

-- no template of a program reaches itself
abbrev pub ReachesItselfNowhere : Program → Type 0
ReachesItselfNowhere p = (x : Name) → ¬ ReachesTemplate (templates_of p) x x
