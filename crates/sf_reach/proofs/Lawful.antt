-- The first endless call.
use Rattle.std.proofs.Common.{◌≡◌, ℕ, zero, suc, ◌<◌, length, List, All, Option, Some, None, slice_get, ap, ◌∙◌, sym, refl, subst, arith, ◌⊎◌, inl, inr}
use Rattle.std.proofs.lemmas.Bool.{cases_lt}
use Rattle.std.proofs.lemmas.Option.{slice_get_within, same_Some, none-some}
use Rattle.sf_value.specs.Values.{Name}
use Rattle.sf_refusal.specs.declared.spot.Spot.{Spot}
use Rattle.sf_term.specs.declared.program.Program.{Program}
use Rattle.sf_term.specs.Headers.{Header}
use Rattle.sf_term.specs.Trees.{Template, template_named}
use Rattle.sf_term.specs.Arena.{headers_of, term_template, templates_of, tree}
use Rattle.sf_mean.specs.Calls.{Calls, ReachesTemplate, reaches, reaches_on}
use Rattle.sf_reach.specs.Names.{HasDifferentNames}
use Rattle.sf_reach.specs.Order.{PlacedCall, CallsInOrder}
use Rattle.sf_reach.specs.Endless.{IsEndless, IsFirstWith, HasNoEndlessCall, IsFirstEndlessCall, ReachesItselfNowhere}
use Rattle.sf_reach.proofs.Lists.{each, first_in, first_has, first_once, first_or_none}
use Rattle.sf_reach.proofs.Named.{header_of, place_of_named, place_of_header, named_is, named_so}
use Rattle.sf_reach.proofs.Ordered.{calls_once, calls_sound, calls_complete, calls_listed, HasCall}
use Rattle.sf_reach.proofs.Deciding.{endless_or_not}

-- ## One

same_call : (p : Program) (i : ℕ) (h k : Header) (cs ds : List PlacedCall) (c d : PlacedCall) → slice_get (headers_of p) i ≡ Some h → slice_get (headers_of p) i ≡ Some k → CallsInOrder p h.body cs → CallsInOrder p k.body ds
    → IsFirstWith (IsEndless (templates_of p) h.name) cs c → IsFirstWith (IsEndless (templates_of p) k.name) ds d → c ≡ d
same_call p i h k cs ds c d at at' in_h in_k first first' =
    let e : k ≡ h = same_Some _ _ (sym at' ∙ at) in
    let listed = subst (λ (k : Header). CallsInOrder p k.body ds) e in_k in
    let there = subst (λ (k : Header). IsFirstWith (IsEndless (templates_of p) k.name) ds d) e first' in
    first_once (IsEndless (templates_of p) h.name) first (subst (λ ds. IsFirstWith (IsEndless (templates_of p) h.name) ds d) (calls_once listed in_h) there)

not_before : (p : Program) (r s : Spot) (h : IsFirstEndlessCall p r) (k : IsFirstEndlessCall p s) → h.place < k.place → ⊥
not_before p r s h k before =
    let E = IsEndless (templates_of p) h.header.name in
    each (λ c. ¬ E c) h.calls h.call (k.before h.place before h.header h.calls h.at h.in_order) (first_in E h.first) (first_has E h.first)

pub endless_once : (p : Program) (r s : Spot) → IsFirstEndlessCall p r → IsFirstEndlessCall p s → r ≡ s
endless_once p r s h k =
    elim (cases_lt h.place k.place) [
      | inl before ↦ absurd (not_before p r s h k before)
      | inr from ↦ elim (cases_lt k.place h.place) [
        | inl before ↦ absurd (not_before p s r k h before)
        | inr to ↦
            let e : k.place ≡ h.place = omega arith in
            let at : slice_get (headers_of p) h.place ≡ Some k.header = ap (slice_get (headers_of p)) (sym e) ∙ k.at in
            sym h.stands ∙ ap (λ (c : PlacedCall). c.spot) (same_call p h.place h.header k.header h.calls k.calls h.call k.call h.at at h.in_order k.in_order h.first k.first) ∙ k.stands
      ]
    ]

-- ## Or none

-- where no call is endless, no template reaches itself
pub nowhere : (p : Program) → ((i : ℕ) → HasNoEndlessCall p i) → ReachesItselfNowhere p
nowhere p none x r = by r
  where
    refuse : (t : Template) (g : Name) → template_named x (templates_of p) ≡ Some t → Calls t.body g → (g ≡ x) ⊎ ReachesTemplate (templates_of p) g x → ⊥
    refuse t g named calls back =
        let place = place_of_named x (templates_of p) t named in
        let header = header_of p place.0 t place.2 in
        let listed = calls_listed p header.0.body in
        let call = calls_complete listed.1 (subst (λ (t : Template). Calls t.body g) (sym header.2) calls) in
        let so : header.0.name ≡ x = ap (λ (t : Template). t.name) header.2 ∙ named_so x (templates_of p) t named in
        each (λ c. ¬ IsEndless (templates_of p) header.0.name c) listed.0 call.call (none place.0 header.0 listed.0 header.1 listed.1) call.is_in (endless header.0 call so back)
      where
        endless : {cs : List PlacedCall} (h : Header) (call : HasCall g cs) → h.name ≡ x → (g ≡ x) ⊎ ReachesTemplate (templates_of p) g x → IsEndless (templates_of p) h.name call.call
        endless h call so (inl e) = inl (call.named ∙ e ∙ sym so)
        endless h call so (inr r) = inr (subst (λ y. ReachesTemplate (templates_of p) y h.name) (sym call.named) (subst (ReachesTemplate (templates_of p) g) (sym so) r))

    by : ReachesTemplate (templates_of p) x x → ⊥
    by (reaches {t = t} n c) = refuse t x n c (inl refl)
    by (reaches_on {h = g} {t = t} n c r) = refuse t g n c (inr r)

module _ (p : Program) where
  -- in the templates before a place there is one, or none
  scanned : (n : ℕ) → ((s : Spot) × IsFirstEndlessCall p s) ⊎ ((i : ℕ) → i < n → HasNoEndlessCall p i)
  scanned zero = inr (λ i h. absurd (omega arith))
  scanned (suc n) = by (scanned n) (slice_get (headers_of p) n) refl
    where
      one_more : ((i : ℕ) → i < n → HasNoEndlessCall p i) → HasNoEndlessCall p n → (i : ℕ) → i < suc n → HasNoEndlessCall p i
      one_more before here i h = elim (cases_lt i n) [ inl l ↦ before i l | inr l ↦ let e : n ≡ i = omega arith in subst (HasNoEndlessCall p) e here ]

      of_header : ((i : ℕ) → i < n → HasNoEndlessCall p i) → (h : Header) → slice_get (headers_of p) n ≡ Some h → ((s : Spot) × IsFirstEndlessCall p s) ⊎ ((i : ℕ) → i < suc n → HasNoEndlessCall p i)
      of_header before h at =
          let listed = calls_listed p h.body in
          let E = IsEndless (templates_of p) h.name in
          elim (first_or_none E (endless_or_not (templates_of p) h.name) listed.0) [
            | inl f ↦ inl (f.0.spot, record { place = n; header = h; at = at; calls = listed.0; in_order = listed.1; call = f.0; first = f.1; before = before; stands = refl })
            | inr none ↦ inr (one_more before (λ k cs at' listed'.
                let e : h ≡ k = same_Some _ _ (sym at ∙ at') in
                let moved = subst (λ (k : Header). CallsInOrder p k.body listed.0) e listed.1 in
                subst (λ (k : Header). All (λ c. ¬ IsEndless (templates_of p) k.name c) cs) e (subst (All (λ c. ¬ E c)) (calls_once moved listed') none)))
          ]

      by : ((s : Spot) × IsFirstEndlessCall p s) ⊎ ((i : ℕ) → i < n → HasNoEndlessCall p i) → (o : Option Header) → slice_get (headers_of p) n ≡ o → ((s : Spot) × IsFirstEndlessCall p s) ⊎ ((i : ℕ) → i < suc n → HasNoEndlessCall p i)
      by (inl found) o e = inl found
      by (inr before) None e = inr (one_more before (λ h cs at listed. absurd (none-some h (sym e ∙ at))))
      by (inr before) (Some h) e = of_header before h e

-- past the last template there is no call
pub none_anywhere : (p : Program) → ((i : ℕ) → i < length (headers_of p) → HasNoEndlessCall p i) → ReachesItselfNowhere p
none_anywhere p none = nowhere p (λ i h cs at. none i (slice_get_within (headers_of p) i h at) h cs at)

pub one_or_nowhere : (p : Program) → ((s : Spot) × IsFirstEndlessCall p s) ⊎ ReachesItselfNowhere p
one_or_nowhere p = elim (scanned p (length (headers_of p))) [ inl found ↦ inl found | inr none ↦ inr (none_anywhere p none) ]

-- ## And not both

pub endless_somewhere : (p : Program) (s : Spot) → HasDifferentNames p → IsFirstEndlessCall p s → ¬ ReachesItselfNowhere p
endless_somewhere p s different h nowhere =
    let E = IsEndless (templates_of p) h.header.name in
    let calls = each (λ (c : PlacedCall). Calls (tree p h.header.body) c.name) h.calls h.call (calls_sound h.in_order) (first_in E h.first) in
    let named = sym (named_is p h.header.name h.place (place_of_header p different h.place h.header h.at) h.header h.at) in
    back h.header h.call calls named (first_has E h.first)
  where
    back : (h : Header) (c : PlacedCall) → Calls (tree p h.body) c.name → template_named h.name (templates_of p) ≡ Some (term_template p h) → IsEndless (templates_of p) h.name c → ⊥
    back h c calls named (inl e) = nowhere h.name (reaches named (subst (Calls (tree p h.body)) e calls))
    back h c calls named (inr r) = nowhere h.name (reaches_on named calls r)
