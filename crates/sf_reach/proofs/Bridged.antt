-- Templates that reach one another, and calls that lead from place to place.
use Rattle.std.proofs.Common.{◌≡◌, ℕ, zero, suc, ◌+◌, ◌<◌, arith, MatchOption, length, List, [], ◌∷◌, All, Option, Some, None, slice_get, position, ◌↔◌, ap, ◌∙◌, sym, refl, subst, ◌⊎◌, inl, inr}
use Rattle.std.specs.Option.{option_map}
use Rattle.std.specs.Str.{bytes_eq}
use Rattle.std.proofs.lemmas.Bool.{cases_lt}
use Rattle.std.proofs.lemmas.Option.{same_Some, none-some}
use Rattle.sf_value.specs.Values.{Name}
use Rattle.sf_refusal.specs.declared.spot.Spot.{Spot}
use Rattle.sf_term.specs.declared.program.Program.{Program}
use Rattle.sf_term.specs.Headers.{Header}
use Rattle.sf_term.specs.Trees.{Template, template_named}
use Rattle.sf_term.specs.Arena.{headers_of, term_template, templates_of, tree}
use Rattle.sf_mean.specs.Calls.{Calls, ReachesTemplate, reaches, reaches_on}
use Rattle.sf_reach.specs.declared.graph.Call.{Call}
use Rattle.sf_reach.specs.Names.{program_names, HasDifferentNames}
use Rattle.sf_reach.specs.Order.{PlacedCall, CallsInOrder}
use Rattle.sf_reach.specs.Endless.{IsEndless, IsFirstWith, HasNoEndlessCall, IsFirstEndlessCall}
use Rattle.sf_reach.specs.Graphs.{Graph, calls_at, found_call, found_calls, IsGraphOf, Leads, LeadsOn, there, onward}
use Rattle.sf_reach.proofs.Lists.{In, among, among_in, each, found, found_of, first_found, none_found}
use Rattle.sf_reach.proofs.Named.{header_of, named_at, none_named, place_of_named, place_of_header, named_is, name_is}
use Rattle.sf_reach.proofs.Ordered.{calls_once, calls_sound, calls_complete}
use Rattle.sf_reach.proofs.Deciding.{reacher_named}

-- ## What is found of a call

module _ (ns : List Name) (d : PlacedCall) where
  abbrev made : ℕ → Call
  made i = record { callee = i; spot = d.spot }

  pub found_place : (c : Call) → found_call ns d ≡ Some c → position (bytes_eq d.name) ns ≡ Some c.callee
  found_place c e = by (position (bytes_eq d.name) ns) e
    where
      by : (o : Option ℕ) → option_map made o ≡ Some c → o ≡ Some c.callee
      by None e = absurd (none-some c e)
      by (Some i) e = ap (λ (c : Call). Some c.callee) (same_Some _ _ e)

  pub found_spot : (c : Call) → found_call ns d ≡ Some c → d.spot ≡ c.spot
  found_spot c e = by (position (bytes_eq d.name) ns) e
    where
      by : (o : Option ℕ) → option_map made o ≡ Some c → d.spot ≡ c.spot
      by None e = absurd (none-some c e)
      by (Some i) e = ap (λ (c : Call). c.spot) (same_Some _ _ e)

  pub found_there : (i : ℕ) → position (bytes_eq d.name) ns ≡ Some i → found_call ns d ≡ Some (made i)
  found_there i e = ap (option_map made) e

  pub not_found : found_call ns d ≡ None → position (bytes_eq d.name) ns ≡ None
  not_found e = by (position (bytes_eq d.name) ns) e
    where
      by : (o : Option ℕ) → option_map made o ≡ None → o ≡ None
      by None e = refl
      by (Some i) e = absurd (none-some (made i) (sym e))

module _ (p : Program) (g : Graph) (graph : IsGraphOf p g) (different : HasDifferentNames p) where
  -- ## From calls to leads, and back

  calls_to : (i j : ℕ) (h : Header) → slice_get (headers_of p) i ≡ Some h → Leads g i j → (x : Name) × Calls (tree p h.body) x × (position (bytes_eq x) (program_names p) ≡ Some j)
  calls_to i j h at leads =
      let gathered = graph.calls i h at in
      let d = found_of (found_call (program_names p)) gathered.0 leads.0 (subst (λ l. In l leads.0) gathered.2 (among_in leads.1)) in
      (d.0.name, each (λ (c : PlacedCall). Calls (tree p h.body) c.name) gathered.0 d.0 (calls_sound gathered.1) d.1, found_place (program_names p) d.0 leads.0 d.2 ∙ ap Some leads.2)

  leads_to : (i j : ℕ) (h : Header) (x : Name) → slice_get (headers_of p) i ≡ Some h → Calls (tree p h.body) x → position (bytes_eq x) (program_names p) ≡ Some j → Leads g i j
  leads_to i j h x at calls place =
      let ns = program_names p in
      let gathered = graph.calls i h at in
      let call = calls_complete gathered.1 calls in
      let here = found_there ns call.call j (ap (λ x. position (bytes_eq x) ns) call.named ∙ place) in
      let there = found (found_call ns) call.is_in here in
      (made ns call.call j, among (subst (λ l. In l (made ns call.call j)) (sym gathered.2) there), refl)

  leads_from : (x y : Name) (t : Template) → template_named x (templates_of p) ≡ Some t → Calls t.body y → (i j : ℕ) → position (bytes_eq x) (program_names p) ≡ Some i → position (bytes_eq y) (program_names p) ≡ Some j → Leads g i j
  leads_from x y t named calls i j from to =
      let place = place_of_named x (templates_of p) t named in
      let e : i ≡ place.0 = same_Some _ _ (sym from ∙ place.1) in
      let header = header_of p i t (ap (slice_get (templates_of p)) e ∙ place.2) in
      leads_to i j header.0 y header.1 (subst (λ (t : Template). Calls t.body y) (sym header.2) calls) to

  -- ## From templates that are reached to places, and back

  pub leads_on : {x y : Name} → ReachesTemplate (templates_of p) x y → (i j : ℕ) → position (bytes_eq x) (program_names p) ≡ Some i → position (bytes_eq y) (program_names p) ≡ Some j → LeadsOn g i j
  leads_on {x} (reaches {h = y} {t = t} named calls) i j from to = onward (leads_from x y t named calls i j from to) there
  leads_on {x} (reaches_on {h = y} {t = t} named calls r) i j from to =
      let u = reacher_named r in
      let m = place_of_named y (templates_of p) u.0 u.1 in
      onward (leads_from x y t named calls i m.0 from m.1) (leads_on r m.0 j m.1 to)

  pub reaches_by : {i j : ℕ} → LeadsOn g i j → (h k : Header) → slice_get (headers_of p) i ≡ Some h → slice_get (headers_of p) j ≡ Some k → (h.name ≡ k.name) ⊎ ReachesTemplate (templates_of p) h.name k.name
  reaches_by there h k at at' = inl (ap (λ (h : Header). h.name) (same_Some _ _ (sym at ∙ at')))
  reaches_by {i} (onward {j = m} e rest) h k at at' =
      let call = calls_to i m h at e in
      let there = named_at call.0 (templates_of p) m call.2 in
      let header = header_of p m there.template there.at in
      let so = name_is p call.0 m call.2 header.0 header.1 in
      let named = sym (named_is p h.name i (place_of_header p different i h at) h at) in
      inr (on h call.0 header.0 k so named call.1 (reaches_by rest header.0 k header.1 at'))
    where
      on : (h : Header) (x : Name) (m k : Header) → m.name ≡ x → template_named h.name (templates_of p) ≡ Some (term_template p h) → Calls (tree p h.body) x → (m.name ≡ k.name) ⊎ ReachesTemplate (templates_of p) m.name k.name → ReachesTemplate (templates_of p) h.name k.name
      on h x m k so named calls (inl e) = reaches named (subst (Calls (tree p h.body)) (sym so ∙ e) calls)
      on h x m k so named calls (inr r) = reaches_on named calls (subst (λ y. ReachesTemplate (templates_of p) y k.name) so r)

  -- ## Endless calls

  module _ (i : ℕ) (h : Header) (at : slice_get (headers_of p) i ≡ Some h) where
    abbrev Back : Call → Type 0
    Back c = LeadsOn g c.callee i

    -- a call of what is there is endless where calls lead back
    endless_back : (d : PlacedCall) (c : Call) → found_call (program_names p) d ≡ Some c → IsEndless (templates_of p) h.name d ↔ Back c
    endless_back d c e = (to, from)
      where
        place : position (bytes_eq d.name) (program_names p) ≡ Some c.callee
        place = found_place (program_names p) d c e

        own : position (bytes_eq h.name) (program_names p) ≡ Some i
        own = place_of_header p different i h at

        to : IsEndless (templates_of p) h.name d → Back c
        to (inl s) = subst (λ j. LeadsOn g j i) (same_Some _ _ (sym own ∙ ap (λ x. position (bytes_eq x) (program_names p)) (sym s) ∙ place)) there
        to (inr r) = leads_on r c.callee i place own

        from : Back c → IsEndless (templates_of p) h.name d
        from b =
            let called = named_at d.name (templates_of p) c.callee place in
            let header = header_of p c.callee called.template called.at in
            let so = name_is p d.name c.callee place header.0 header.1 in
            elim (reaches_by b header.0 h header.1 at) [ inl s ↦ inl (sym so ∙ s) | inr r ↦ inr (subst (λ y. ReachesTemplate (templates_of p) y h.name) so r) ]

    -- a call of what is not there is not endless
    absent_call : (d : PlacedCall) → found_call (program_names p) d ≡ None → ¬ IsEndless (templates_of p) h.name d
    absent_call d e (inl s) = none-some i (sym (not_found (program_names p) d e) ∙ ap (λ x. position (bytes_eq x) (program_names p)) s ∙ place_of_header p different i h at)
    absent_call d e (inr r) = let u = reacher_named r in none-some u.0 (sym (none_named d.name (templates_of p) (not_found (program_names p) d e)) ∙ u.1)

    none_here : (cs : List PlacedCall) → CallsInOrder p h.body cs → All (λ c. ¬ Back c) (calls_at g i) → All (λ c. ¬ IsEndless (templates_of p) h.name c) cs
    none_here cs listed none =
        let gathered = graph.calls i h at in
        let e : calls_at g i ≡ found_calls (program_names p) cs = gathered.2 ∙ ap (found_calls (program_names p)) (calls_once gathered.1 listed) in
        none_found (found_call (program_names p)) (IsEndless (templates_of p) h.name) Back endless_back absent_call cs (subst (All (λ c. ¬ Back c)) e none)

    pub endless_here : (s : Spot) → ((j : ℕ) → j < i → HasNoEndlessCall p j) → (c : Call) × IsFirstWith Back (calls_at g i) c × (c.spot ≡ s) → IsFirstEndlessCall p s
    endless_here s before f =
        let gathered = graph.calls i h at in
        let d = first_found (found_call (program_names p)) (IsEndless (templates_of p) h.name) Back endless_back absent_call gathered.0 f.0 (subst (λ l. IsFirstWith Back l f.0) gathered.2 f.1) in
        record {
          place = i;
          header = h;
          at = at;
          calls = gathered.0;
          in_order = gathered.1;
          call = d.0;
          first = d.1;
          before = before;
          stands = found_spot (program_names p) d.0 f.0 d.2 ∙ f.2;
        }

  -- where no call in a template leads back, none is endless
  pub none_endless : (i : ℕ) → All (λ (c : Call). ¬ LeadsOn g c.callee i) (calls_at g i) → HasNoEndlessCall p i
  none_endless i none h cs at listed = none_here i h at cs listed none

-- ## The first of all templates

pub before_more : (p : Program) (n : ℕ) → ((i : ℕ) → i < n → HasNoEndlessCall p i) → HasNoEndlessCall p n → (i : ℕ) → i < n + 1 → HasNoEndlessCall p i
before_more p n before here i h = elim (cases_lt i n) [ inl l ↦ before i l | inr l ↦ let e : n ≡ i = omega arith in subst (HasNoEndlessCall p) e here ]

some_there : {X : Type 0} (xs : List X) (i : ℕ) → i < length xs → (x : X) × (slice_get xs i ≡ Some x)
some_there [] i h = absurd (omega arith)
some_there (x ∷ xs) zero h = (x, refl)
some_there (x ∷ xs) (suc i) h = some_there xs i (omega arith)

module _ (p : Program) (g : Graph) (graph : IsGraphOf p g) (different : HasDifferentNames p) (i : ℕ) where
  pub found_first : (o : Option Spot) (s : Spot) → o ≡ Some s → i < length g → ((j : ℕ) → j < i → HasNoEndlessCall p j)
      → MatchOption o (All (λ (c : Call). ¬ LeadsOn g c.callee i) (calls_at g i)) (λ s. (c : Call) × IsFirstWith (λ (c : Call). LeadsOn g c.callee i) (calls_at g i) c × (c.spot ≡ s)) → IsFirstEndlessCall p s
  found_first None s e within before h = absurd (none-some s e)
  found_first (Some r) s e within before h =
      let header = some_there (headers_of p) i (subst (λ n. i < n) graph.long within) in
      endless_here p g graph different i header.0 header.1 s before (h.0, h.1, h.2 ∙ same_Some _ _ e)

  pub found_none : (o : Option Spot) → o ≡ None → MatchOption o (All (λ (c : Call). ¬ LeadsOn g c.callee i) (calls_at g i)) (λ s. (c : Call) × IsFirstWith (λ (c : Call). LeadsOn g c.callee i) (calls_at g i) c × (c.spot ≡ s)) → HasNoEndlessCall p i
  found_none None e h = none_endless p g graph different i h
  found_none (Some s) e h = absurd (none-some s (sym e))
