-- A type is found that fits, or it is refused, for one reason.
use Rattle.std.proofs.Common.{◌≡◌, ◌⊎◌, inl, inr, Some, None, refl, sym, ◌∙◌, ap, arith}
use Rattle.std.specs.Prelude.{Option}
use Rattle.std.proofs.lemmas.Bool.{cases_lt}
use Rattle.sf_value.specs.Values.{Kind, nodes}
use Rattle.sf_refusal.specs.declared.spot.Spot.{Spot}
use Rattle.sf_refusal.specs.declared.rule.Rule.TheVariants.{Mismatch, TypeTooLarge}
use Rattle.sf_refusal.specs.declared.refusal.Breach.{Breach}
use Rattle.sf_refusal.specs.Refusals.{breach_of}
use Rattle.sf_operator.specs.Kinds.{Fits}
use Rattle.sf_operator.specs.Breaches.{KindRefused}

-- what is refused is no type that fits
pub kind_refused : (o : Option Kind) (s : Spot) (b : Breach) {t : Kind} → KindRefused o s b → o ≡ Some t → Fits t → ⊥
kind_refused None s b h e f = absurd cc
kind_refused (Some u) s b {t = t} h e f = let is : u ≡ t = cc in omega (arith, h.1, ap (λ (t : Kind). nodes t) is)

-- there is a type that fits, or a refusal
pub kind_answered : (o : Option Kind) (s : Spot) → ((t : Kind) × (o ≡ Some t) × Fits t) ⊎ ((b : Breach) × KindRefused o s b)
kind_answered None s = inr (breach_of Mismatch s, refl)
kind_answered (Some t) s = elim (cases_lt 256 (nodes t)) [
  | inl h ↦ inr (breach_of TypeTooLarge s, (refl, h))
  | inr h ↦ inl (t, refl, h)
]

-- one refusal at most
pub kind_once : (o : Option Kind) (s : Spot) {r q : Breach} → KindRefused o s r → KindRefused o s q → r ≡ q
kind_once None s h k = h ∙ sym k
kind_once (Some t) s h k = h.0 ∙ sym k.0
