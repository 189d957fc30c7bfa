-- A network is accepted, or breaks a rule.
use Rattle.std.proofs.Common.{◌≡◌, ◌≢◌, ℕ, zero, suc, ◌<◌, ◌≤◌, length, Bool, true, false, List, [], ◌∷◌, Option, Some, None, slice_get, ◌⊎◌, inl, inr, refl, sym, ap, subst, ◌∙◌, arith}
use Rattle.std.specs.Option.{option_map}
use Rattle.std.specs.Bool.{Decides}
use Rattle.std.specs.Str.{bytes_eq}
use Rattle.std.proofs.lemmas.Slice.Eq.{bytes_eq-Decides}
use Rattle.std.proofs.lemmas.Option.{slice_get-map, slice_get_within, same_Some, none-some}
use Rattle.sf_refusal.specs.declared.spot.Spot.{Spot}
use Rattle.sf_refusal.specs.declared.refusal.Breach.{Breach}
use Rattle.sf_value.specs.Values.{Name}
use Rattle.sf_func.specs.Registries.{TypesByName}
use Rattle.sf_term.specs.Parameters.{NameKind, Bindings, PlacedParameter, binding_of, parameters_of}
use Rattle.sf_term.specs.declared.program.Program.{Program}
use Rattle.sf_term.specs.Headers.{Header}
use Rattle.sf_term.specs.Trees.{Template}
use Rattle.sf_term.specs.Arena.{headers_of, term_template, templates_of}
use Rattle.sf_mean.specs.Networks.{main_of}
use Rattle.sf_mean.specs.Typing.{IsTyped, Accepted}
use Rattle.sf_reach.specs.Endless.{ReachesItselfNowhere}
use Rattle.sf_reach.proofs.Lawful.{one_or_nowhere}
use Rattle.sf_reach.proofs.Gathered.{past_there}
use Rattle.sf_check.specs.Names.{program_names, parameter_names, parameter_spots, Repeats, AreDifferent, NamesDiffer, IsFirstRepeat, HeaderRepeats, name_repeats, parameter_repeats, HeaderDiffers, IsFirstNameAgain}
use Rattle.sf_check.specs.Breaking.{AreTyped, IsFirstBreak}
use Rattle.sf_check.specs.Refusing.{RefusesNetwork, name_refused, type_refused, endless_refused, main_missing}
use Rattle.sf_check.specs.Laws.{HeadersFit}
use Rattle.sf_check.proofs.Templates.{lt_or_eq, template_at, one_more_typed, all_typed}
use Rattle.sf_check.proofs.Naming.{not_below, parameter_spot_at, templates_counted}
use Rattle.sf_check.proofs.Accepted.{accepted_by}
use Rattle.sf_check.proofs.Judged.{template_or}

-- ## Names

names_or : (y x : Name) → (y ≡ x) ⊎ (y ≢ x)
names_or y x = each (bytes_eq y x) (bytes_eq-Decides y x)
  where
    each : (b : Bool) → Decides b (y ≡ x) → (y ≡ x) ⊎ (y ≢ x)
    each true d = inl (d.0 refl)
    each false d = inr (λ e. let k = d.1 e in cc)

module _ (ns : List Name) (x : Name) where
  -- a name stands among the first ones, or doesn't
  abbrev IsSettled : ℕ → Type 0
  IsSettled n = ((i : ℕ) × (i < n) × (slice_get ns i ≡ Some x)) ⊎ ((i : ℕ) → i < n → slice_get ns i ≡ Some x → ⊥)

  one_more : (n : ℕ) (o : Option Name) → slice_get ns n ≡ o → ((i : ℕ) → i < n → slice_get ns i ≡ Some x → ⊥) → IsSettled (suc n)
  one_more n None e none = inr (λ i k q. elim (lt_or_eq i n (omega arith)) [ inl below ↦ none i below q | inr same ↦ none-some x (sym e ∙ ap (slice_get ns) (sym same) ∙ q) ])
  one_more n (Some y) e none = elim (names_or y x) [
    | inl is ↦ inl (n, omega arith, e ∙ ap Some is)
    | inr other ↦ inr (λ i k q. elim (lt_or_eq i n (omega arith)) [ inl below ↦ none i below q | inr same ↦ other (same_Some _ _ (sym e ∙ ap (slice_get ns) (sym same) ∙ q)) ])
  ]

  stands_or : (n : ℕ) → IsSettled n
  stands_or zero = inr (λ i k e. absurd (omega arith))
  stands_or (suc n) = elim (stands_or n) [
    | inl h ↦ inl (h.0, omega (arith, h.1), h.2)
    | inr none ↦ one_more n (slice_get ns n) refl none
  ]

module _ (ns : List Name) where
  abbrev HasFirst : Type 0
  HasFirst = (place : ℕ) × Repeats ns place × ((other : ℕ) → Repeats ns other → place ≤ other)

  repeats_here : (n : ℕ) (o : Option Name) → slice_get ns n ≡ o → Repeats ns n ⊎ (Repeats ns n → ⊥)
  repeats_here n None e = inr (λ r. none-some r.name (sym e ∙ r.here))
  repeats_here n (Some x) e = elim (stands_or ns x n) [
    | inl h ↦ inl (record { earlier = h.0; before = h.1; name = x; there = h.2; here = e })
    | inr none ↦ inr (λ r. none r.earlier r.before (r.there ∙ ap Some (same_Some _ _ (sym r.here ∙ e))))
  ]

  repeats_or : (n : ℕ) → HasFirst ⊎ ((place : ℕ) → place < n → Repeats ns place → ⊥)
  repeats_or zero = inr (λ place k r. absurd (omega arith))
  repeats_or (suc n) = elim (repeats_or n) [
    | inl h ↦ inl h
    | inr none ↦ elim (repeats_here n (slice_get ns n) refl) [
      | inl r ↦ inl (n, r, λ other k. not_below n other (λ below. none other below k))
      | inr away ↦ inr (λ place k r. elim (lt_or_eq place n (omega arith)) [ inl below ↦ none place below r | inr same ↦ away (subst (Repeats ns) same r) ])
    ]
  ]

  different_or : HasFirst ⊎ AreDifferent ns
  different_or = elim (repeats_or (length ns)) [ inl h ↦ inl h | inr none ↦ inr (λ place r. none place (slice_get_within ns place r.name r.here) r) ]

-- the first of parameters that repeats a name has a place
placed_parameter : (qs : List PlacedParameter) → HasFirst (parameter_names (parameters_of qs)) → (s : Spot) × IsFirstRepeat (parameter_names (parameters_of qs)) (parameter_spots qs) s
placed_parameter qs h = by (slice_get qs h.0) refl
  where
    by : (o : Option PlacedParameter) → slice_get qs h.0 ≡ o → (s : Spot) × IsFirstRepeat (parameter_names (parameters_of qs)) (parameter_spots qs) s
    by None e =
        let gone : slice_get (parameter_names (parameters_of qs)) h.0 ≡ None = slice_get-map (λ (b : Name × NameKind). b.0) (parameters_of qs) h.0 ∙ ap (option_map (λ (b : Name × NameKind). b.0)) (slice_get-map binding_of qs h.0 ∙ ap (option_map binding_of) e) in
        absurd (none-some h.1.name (sym gone ∙ h.1.here))
    by (Some q) e = (q.spot, record { place = h.0; repeats = h.1; first = h.2; stands = parameter_spot_at qs h.0 q e })

-- ## Types

module _ (p : Program) where
  no_header : (n : ℕ) → slice_get (headers_of p) n ≡ None → slice_get (templates_of p) n ≡ None
  no_header n e = slice_get-map (term_template p) (headers_of p) n ∙ ap (option_map (term_template p)) e

  header_decided : (i : ℕ) (h : Header) → slice_get (headers_of p) i ≡ Some h → HeaderDiffers p i ⊎ ((s : Spot) × HeaderRepeats p i h s)
  header_decided i h at =
      let qs = parameters_of h.parameters in
      elim (repeats_here (program_names p) i (slice_get (program_names p) i) refl) [
        | inl again ↦ inr (h.spot, name_repeats again)
        | inr new ↦ elim (different_or (parameter_names qs)) [
          | inl first ↦ let k = placed_parameter h.parameters first in inr (k.0, parameter_repeats new k.1)
          | inr apart ↦ inl (new, λ g at'. subst (λ (h : Header). AreDifferent (parameter_names (parameters_of h.parameters))) (same_Some _ _ (sym at ∙ at')) apart)
        ]
      ]

  abbrev DifferTo : ℕ → Type 0
  DifferTo n = (i : ℕ) → i < n → HeaderDiffers p i

  next_differs : (n : ℕ) → DifferTo n → (o : Option Header) → slice_get (headers_of p) n ≡ o → n < length (headers_of p) → ((s : Spot) × IsFirstNameAgain p s) ⊎ DifferTo (suc n)
  next_differs n before None e l = absurd (omega (arith, past_there (headers_of p) n e))
  next_differs n before (Some h) e l = elim (header_decided n h e) [
    | inl differs ↦ inr (λ i k. elim (lt_or_eq i n (omega arith)) [ inl below ↦ before i below | inr same ↦ subst (HeaderDiffers p) (sym same) differs ])
    | inr r ↦ inl (r.0, record { place = n; header = h; at = e; before = before; again = r.1 })
  ]

  differ_or : (n : ℕ) → n ≤ length (headers_of p) → ((s : Spot) × IsFirstNameAgain p s) ⊎ DifferTo n
  differ_or zero most = inr (λ i k. absurd (omega arith))
  differ_or (suc n) most = elim (differ_or n (omega arith)) [ inl h ↦ inl h | inr before ↦ next_differs n before (slice_get (headers_of p) n) refl (omega arith) ]

  all_differ : DifferTo (length (headers_of p)) → NamesDiffer p
  all_differ all = record {
    templates = λ place r. (all place (subst (λ n. place < n) (templates_counted p) (slice_get_within (program_names p) place r.name r.here))).0 r;
    parameters = λ i h at. (all i (slice_get_within (headers_of p) i h at)).1 h at;
  }

  names_decided : NamesDiffer p ⊎ ((s : Spot) × IsFirstNameAgain p s)
  names_decided = elim (differ_or (length (headers_of p)) (omega arith)) [ inl h ↦ inr h | inr all ↦ inl (all_differ all) ]

  module _ (fs : TypesByName) where
    module _ (fit : HeadersFit p) where
      abbrev AreTypedTo : ℕ → Type 0
      AreTypedTo n = (i : ℕ) (t : Template) → i < n → slice_get (templates_of p) i ≡ Some t → IsTyped fs (templates_of p) t

      next_typed : (n : ℕ) → AreTypedTo n → (o : Option Header) → slice_get (headers_of p) n ≡ o → ((b : Breach) × IsFirstBreak fs p b) ⊎ AreTypedTo (suc n)
      next_typed n typed None e = inr (λ i t k q. elim (lt_or_eq i n (omega arith)) [ inl below ↦ typed i t below q | inr same ↦ absurd (none-some t (sym (no_header n e) ∙ ap (slice_get (templates_of p)) (sym same) ∙ q)) ])
      next_typed n typed (Some h) e = elim (template_or fs p h (fit n (term_template p h) (template_at p n h e)).1 (fit n (term_template p h) (template_at p n h e)).0) [
        | inl is ↦ inr (λ i t k q. one_more_typed fs p n typed h e is i t (omega arith) q)
        | inr r ↦ inl (r.0, record { place = n; header = h; at = e; typed = typed; broken = r.1 })
      ]

      typed_or : (n : ℕ) → ((b : Breach) × IsFirstBreak fs p b) ⊎ AreTypedTo n
      typed_or zero = inr (λ i t k e. absurd (omega arith))
      typed_or (suc n) = elim (typed_or n) [ inl h ↦ inl h | inr typed ↦ next_typed n typed (slice_get (headers_of p) n) refl ]

      -- ## Networks

      abbrev IsDecided : Type 0
      IsDecided = Accepted fs (templates_of p) ⊎ ((b : Breach) × RefusesNetwork fs p b)

      main_decided : NamesDiffer p → AreTyped fs p → ReachesItselfNowhere p → (o : Option Template) → main_of (templates_of p) ≡ o → IsDecided
      main_decided different typed nowhere None e = inr (_, main_missing different typed nowhere (λ t main bare. none-some t (sym e ∙ main)))
      main_decided different typed nowhere (Some t) e = by t.parameters refl
        where
          by : (qs : Bindings) → t.parameters ≡ qs → IsDecided
          by [] bare = inl (accepted_by p fs t different typed nowhere e bare)
          by (q ∷ qs) more = inr (
            _,
            main_missing different typed nowhere (λ u main bare.
                let k : q ∷ qs ≡ [] = sym more ∙ ap (λ (t : Template). t.parameters) (same_Some _ _ (sym e ∙ main)) ∙ bare in cc),
          )

      calls_decided : NamesDiffer p → AreTyped fs p → IsDecided
      calls_decided different typed = elim (one_or_nowhere p) [
        | inl h ↦ inr (_, endless_refused different typed h.1)
        | inr nowhere ↦ main_decided different typed nowhere (main_of (templates_of p)) refl
      ]

      pub network_decided : IsDecided
      network_decided = elim names_decided [
        | inr h ↦ inr (_, name_refused h.1)
        | inl different ↦ elim (typed_or (length (headers_of p))) [
          | inl h ↦ inr (h.0, type_refused different h.1)
          | inr typed ↦ calls_decided different (all_typed fs p (length (headers_of p)) typed (omega arith))
        ]
      ]
