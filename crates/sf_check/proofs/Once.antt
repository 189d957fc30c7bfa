-- One rule is broken first, at most.
use Rattle.std.proofs.Common.{◌≡◌, ◌<◌, ℕ, List, Some, slice_get, refl, sym, ◌∙◌, ap, subst, arith}
use Rattle.std.proofs.lemmas.Option.{same_Some}
use mathlib.Core.Path.{subst₂}
use Rattle.sf_func.specs.Registries.{TypesByName}
use Rattle.sf_refusal.specs.declared.spot.Spot.{Spot}
use Rattle.sf_refusal.specs.declared.rule.Rule.TheVariants.{DuplicateName, Endless}
use Rattle.sf_refusal.specs.declared.refusal.Breach.{Breach}
use Rattle.sf_refusal.specs.Refusals.{breach_of}
use Rattle.sf_term.specs.declared.program.Program.{Program}
use Rattle.sf_term.specs.Headers.{Header}
use Rattle.sf_term.specs.Arena.{headers_of, term_template}
use Rattle.sf_value.specs.Values.{Name}
use Rattle.sf_reach.proofs.Lawful.{endless_once, endless_somewhere}
use Rattle.sf_check.specs.Names.{IsFirstRepeat, NamesDiffer, HeaderRepeats, name_repeats, parameter_repeats, HeaderDiffers, IsFirstNameAgain}
use Rattle.sf_check.specs.Breaking.{TemplateBreaks, AreTyped, IsFirstBreak}
use Rattle.sf_check.specs.Refusing.{RefusesNetwork, name_refused, type_refused, endless_refused, main_missing}
use Rattle.sf_check.proofs.Judged.{template_untyped}
use Rattle.sf_check.proofs.Templates.{template_at}

no_order : (m n : ℕ) → (m < n → ⊥) → (n < m → ⊥) → m ≡ n
no_order m n below above = grind arith

repeat_once : {ns : List Name} {spots : List Spot} {s t : Spot} → IsFirstRepeat ns spots s → IsFirstRepeat ns spots t → s ≡ t
repeat_once {spots = spots} h k =
    let below = h.first k.place k.repeats in
    let above = k.first h.place h.repeats in
    let place : h.place ≡ k.place = omega arith in
    same_Some _ _ (sym h.stands ∙ ap (slice_get spots) place ∙ k.stands)

module _ {p : Program} where
  header_once : {i : ℕ} {h : Header} {s t : Spot} → HeaderRepeats p i h s → HeaderRepeats p i h t → s ≡ t
  header_once (name_repeats h) (name_repeats k) = refl
  header_once (name_repeats h) (parameter_repeats new k) = absurd (new h)
  header_once (parameter_repeats new h) (name_repeats k) = absurd (new k)
  header_once (parameter_repeats new h) (parameter_repeats more k) = repeat_once h k

  header_apart : {i : ℕ} {h : Header} {s : Spot} → slice_get (headers_of p) i ≡ Some h → HeaderDiffers p i → HeaderRepeats p i h s → ⊥
  header_apart at differs (name_repeats h) = differs.0 h
  header_apart {h = h} at differs (parameter_repeats new k) = differs.1 h at k.place k.repeats

  again_once : {s t : Spot} → IsFirstNameAgain p s → IsFirstNameAgain p t → s ≡ t
  again_once {s} {t} h k =
      let below : h.place < k.place → ⊥ = λ l. header_apart h.at (k.before h.place l) h.again in
      let above : k.place < h.place → ⊥ = λ l. header_apart k.at (h.before k.place l) k.again in
      let place : k.place ≡ h.place = no_order k.place h.place above below in
      let same : k.header ≡ h.header = same_Some _ _ (sym k.at ∙ ap (slice_get (headers_of p)) place ∙ h.at) in
      header_once h.again (subst₂ (λ i g. HeaderRepeats p i g t) place same k.again)

  names_apart : {s : Spot} → NamesDiffer p → IsFirstNameAgain p s → ⊥
  names_apart different h = header_apart h.at (different.templates h.place, different.parameters h.place) h.again

module _ {fs : TypesByName} {p : Program} where
  template_once : {h : Header} {e f : Breach} → TemplateBreaks fs p h e → TemplateBreaks fs p h f → e ≡ f
  template_once h k = let a = h.first in let b = k.first in cc

  -- a template that stands before the first break is typed
  before_first : {e f : Breach} (h : IsFirstBreak fs p e) (k : IsFirstBreak fs p f) → h.place < k.place → ⊥
  before_first h k before = template_untyped h.broken (k.typed h.place (term_template p h.header) before (template_at p h.place h.header h.at))

  first_once : {e f : Breach} → IsFirstBreak fs p e → IsFirstBreak fs p f → e ≡ f
  first_once {e} {f} h k =
      let below : h.place < k.place → ⊥ = before_first h k in
      let above : k.place < h.place → ⊥ = before_first k h in
      let place : k.place ≡ h.place = no_order k.place h.place above below in
      let same : k.header ≡ h.header = same_Some _ _ (sym k.at ∙ ap (slice_get (headers_of p)) place ∙ h.at) in
      template_once h.broken (subst (λ g. TemplateBreaks fs p g f) same k.broken)

  untyped_typed : {e : Breach} → AreTyped fs p → IsFirstBreak fs p e → ⊥
  untyped_typed typed h = template_untyped h.broken (typed h.place (term_template p h.header) (template_at p h.place h.header h.at))

  pub refuses_once : {e f : Breach} → RefusesNetwork fs p e → RefusesNetwork fs p f → e ≡ f
  refuses_once (name_refused h) (name_refused k) = ap (breach_of DuplicateName) (again_once h k)
  refuses_once (name_refused h) (type_refused different k) = absurd (names_apart different h)
  refuses_once (name_refused h) (endless_refused different typed k) = absurd (names_apart different h)
  refuses_once (name_refused h) (main_missing different typed nowhere none) = absurd (names_apart different h)
  refuses_once (type_refused different h) (name_refused k) = absurd (names_apart different k)
  refuses_once (type_refused different h) (type_refused more k) = first_once h k
  refuses_once (type_refused different h) (endless_refused more typed k) = absurd (untyped_typed typed h)
  refuses_once (type_refused different h) (main_missing more typed nowhere none) = absurd (untyped_typed typed h)
  refuses_once (endless_refused different typed h) (name_refused k) = absurd (names_apart different k)
  refuses_once (endless_refused different typed h) (type_refused more k) = absurd (untyped_typed typed k)
  refuses_once (endless_refused different typed h) (endless_refused more all k) = ap (breach_of Endless) (endless_once p _ _ h k)
  refuses_once (endless_refused different typed h) (main_missing more all nowhere none) = absurd (endless_somewhere p _ different.templates h nowhere)
  refuses_once (main_missing different typed nowhere none) (name_refused k) = absurd (names_apart different k)
  refuses_once (main_missing different typed nowhere none) (type_refused more k) = absurd (untyped_typed typed k)
  refuses_once (main_missing different typed nowhere none) (endless_refused more all k) = absurd (endless_somewhere p _ more.templates k nowhere)
  refuses_once (main_missing different typed nowhere none) (main_missing more all never missing) = refl
