-- Where calls lead to.
use Rattle.std.proofs.Common.{◌≡◌, ◌≢◌, ℕ, zero, suc, ◌+◌, ◌*◌, ◌<◌, ◌≤◌, length, List, [], ◌∷◌, ◌++◌, All, Bool, true, get_or, slice_set, take, drop, ap, ◌∙◌, sym, refl, subst, arith, ◌⊎◌, inl, inr}
use Rattle.std.proofs.lemmas.List.{take_more, length-set, length-append, take-append-drop}
use Rattle.std.proofs.lemmas.List.Elements.{All-append, All-cons, All-nil}
use Rattle.std.proofs.Math.Seq.{drop-cons}
use Rattle.sf_reach.specs.declared.graph.Call.{Call}
use Rattle.sf_reach.specs.Endless.{IsFirstWith}
use Rattle.sf_reach.specs.Graphs.{Graph, calls_at, StaysWithin, Leads, LeadsOn, there, onward, Subsides, subsides, marked, AreSettled, LeadElsewhere, unmarked, Enters, known, entered}
use Rattle.sf_reach.proofs.Lists.{In, first, later, among, among_in, in_left, in_append, in_last, in_place, all_front, each, first_behind, count_marked}

-- ## Marks

pub mark_kept : (bs : List Bool) (t i : ℕ) → marked bs i ≡ true → marked (slice_set bs t true) i ≡ true
mark_kept [] t i e = absurd cc
mark_kept (b ∷ bs) zero zero e = refl
mark_kept (b ∷ bs) zero (suc i) e = e
mark_kept (b ∷ bs) (suc t) zero e = e
mark_kept (b ∷ bs) (suc t) (suc i) e = mark_kept bs t i e

pub mark_set : (bs : List Bool) (t : ℕ) → t < length bs → marked (slice_set bs t true) t ≡ true
mark_set [] t h = absurd (omega arith)
mark_set (b ∷ bs) zero h = refl
mark_set (b ∷ bs) (suc t) h = mark_set bs t (omega arith)

pub mark_of : (bs : List Bool) (t i : ℕ) → marked (slice_set bs t true) i ≡ true → (i ≡ t) ⊎ (marked bs i ≡ true)
mark_of [] t i e = inr e
mark_of (b ∷ bs) zero zero e = inl refl
mark_of (b ∷ bs) zero (suc i) e = inr e
mark_of (b ∷ bs) (suc t) zero e = inr e
mark_of (b ∷ bs) (suc t) (suc i) e = elim (mark_of bs t i e) [ inl s ↦ inl (ap suc s) | inr k ↦ inr k ]

module _ (g : Graph) where
  -- ## Calls that lead on for a while only

  extend : {i j k : ℕ} → LeadsOn g i j → Leads g j k → LeadsOn g i k
  extend there e = onward e there
  extend (onward d p) e = onward d (extend p e)

  pub no_way_back : {i j : ℕ} → Subsides g i → Leads g i j → LeadsOn g j i → ⊥
  no_way_back (subsides f) e there = no_way_back (f _ e) e there
  no_way_back (subsides f) e (onward d p) = no_way_back (f _ e) d (extend p e)

  -- a template from which calls lead on for a while only has no call that leads back
  pub halts_no_way : (i : ℕ) → Subsides g i → All (λ (c : Call). ¬ LeadsOn g c.callee i) (calls_at g i)
  halts_no_way i h = λ k d l. λ p. no_way_back h (get_or (calls_at g i) k d, among (in_place (calls_at g i) k d l), refl) p

  -- a template subsides where all that it calls does
  pub one_settled : (bs : List Bool) (t : ℕ) → AreSettled g bs → All (λ (c : Call). marked bs c.callee ≡ true) (calls_at g t) → AreSettled g (slice_set bs t true)
  one_settled bs t settled calls i e = by (mark_of bs t i e)
    where
      it : Subsides g t
      it = subsides (λ j k. subst (Subsides g) k.2 (settled k.0.callee (each (λ (c : Call). marked bs c.callee ≡ true) (calls_at g t) k.0 calls (among_in k.1))))

      by : (i ≡ t) ⊎ (marked bs i ≡ true) → Subsides g i
      by (inl s) = subst (Subsides g) (sym s) it
      by (inr k) = settled i k

  -- ## Calls that lead elsewhere

  pub elsewhere : (to : ℕ) (bs : List Bool) → LeadElsewhere g to bs → {i j : ℕ} → marked bs i ≡ true → j ≡ to → LeadsOn g i j → ⊥
  elsewhere to bs h {i} m e there = (h i m).0 e
  elsewhere to bs h {i} m e (onward d p) =
      let next = each (λ (c : Call). marked bs c.callee ≡ true) (calls_at g i) d.0 (h i m).1 (among_in d.1) in
      elsewhere to bs h (ap (marked bs) (sym d.2) ∙ next) e p

  -- What a search has found: all that is marked and not left was looked at, and calls lead from the start to all that is left.
  pub record Searched (from to : ℕ) (bs : List Bool) (ls : List ℕ) : Type 0 where
    pub long : length bs ≡ length g
    pub inside : All (λ t. t < length g) ls
    pub led : All (LeadsOn g from) ls
    pub start : marked bs from ≡ true
    pub seen : (i : ℕ) → marked bs i ≡ true → In ls i ⊎ ((i ≢ to) × All (λ (c : Call). marked bs c.callee ≡ true) (calls_at g i))

  -- The same while the calls of a template are looked at, of which some were.
  pub record Following (from to t : ℕ) (met : List Call) (bs : List Bool) (ls : List ℕ) : Type 0 where
    pub long : length bs ≡ length g
    pub inside : All (λ t. t < length g) ls
    pub led : All (LeadsOn g from) ls
    pub start : marked bs from ≡ true
    pub reached : LeadsOn g from t
    pub seen : (i : ℕ) → marked bs i ≡ true → In ls i ⊎ ((i ≡ t) ⊎ ((i ≢ to) × All (λ (c : Call). marked bs c.callee ≡ true) (calls_at g i)))
    pub marked_met : All (λ (c : Call). marked bs c.callee ≡ true) met

  pub begun : (from to : ℕ) {bs more : List Bool} {none ls : List ℕ} → Enters from bs more none ls → none ≡ [] → from < length g → length bs ≡ length g → LeadElsewhere g to bs → Searched from to more ls
  begun from to (known m) e within long h = record {
    long = long;
    inside = subst (All (λ t. t < length g)) (sym e) (All-nil (λ t. t < length g));
    led = subst (All (LeadsOn g from)) (sym e) (All-nil (LeadsOn g from));
    start = m;
    seen = λ i k. inr (h i k);
  }
  begun from to (entered {bs = bs} {ls = none} m) e within long h = record {
    long = length-set bs from true ∙ long;
    inside = subst (λ none. All (λ t. t < length g) (none ++ from ∷ [])) (sym e) (All-cons (λ t. t < length g) from [] within (All-nil (λ t. t < length g)));
    led = subst (λ none. All (LeadsOn g from) (none ++ from ∷ [])) (sym e) (All-cons (LeadsOn g from) from [] there (All-nil (LeadsOn g from)));
    start = mark_set bs from (subst (λ n. from < n) (sym long) within);
    seen = λ i k. elim (mark_of bs from i k) [
      | inl s ↦ inl (subst (λ none. In (none ++ from ∷ []) i) (sym e) (subst (In (from ∷ [])) (sym s) first))
      | inr o ↦ let r = h i o in inr (r.0, λ k d l. mark_kept bs from _ (r.1 k d l))
    ];
  }

  -- the last that is left is looked at
  pub followed : (from to t : ℕ) (bs : List Bool) (ls : List ℕ) → Searched from to bs (ls ++ t ∷ []) → Following from to t [] bs ls
  followed from to t bs ls h = record {
    long = h.long;
    inside = all_front (λ t. t < length g) ls t h.inside;
    led = all_front (LeadsOn g from) ls t h.led;
    start = h.start;
    reached = each (LeadsOn g from) (ls ++ t ∷ []) t h.led (in_last ls t);
    seen = λ i m. elim (h.seen i m) [
      | inl k ↦ elim (in_append ls k) [ inl o ↦ inl o | inr o ↦ inr (inl (is_it o)) ]
      | inr k ↦ inr (inr k)
    ];
    marked_met = All-nil (λ (c : Call). marked bs c.callee ≡ true);
  }
    where
      is_it : {i : ℕ} → In (t ∷ []) i → i ≡ t
      is_it first = refl
      is_it (later k) = elim k [ ]

  pub met_more : (from to t : ℕ) (met : List Call) (c : Call) {bs more : List Bool} {ls rest : List ℕ} → Enters c.callee bs more ls rest → Following from to t met bs ls → c.callee < length g → Leads g t c.callee → Following from to t (met ++ c ∷ []) more rest
  met_more from to t met c (known {bs = bs} m) h within leads = record {
    long = h.long;
    inside = h.inside;
    led = h.led;
    start = h.start;
    reached = h.reached;
    seen = h.seen;
    marked_met = All-append (λ (c : Call). marked bs c.callee ≡ true) met (c ∷ []) h.marked_met (All-cons (λ (c : Call). marked bs c.callee ≡ true) c [] m (All-nil (λ (c : Call). marked bs c.callee ≡ true)));
  }
  met_more from to t met c (entered {bs = bs} {ls = ls} m) h within leads =
      let more = slice_set bs c.callee true in
      let P : Call → Type 0 = λ c. marked more c.callee ≡ true in
      record {
        long = length-set bs c.callee true ∙ h.long;
        inside = All-append (λ t. t < length g) ls (c.callee ∷ []) h.inside (All-cons (λ t. t < length g) c.callee [] within (All-nil (λ t. t < length g)));
        led = All-append (LeadsOn g from) ls (c.callee ∷ []) h.led (All-cons (LeadsOn g from) c.callee [] (extend h.reached leads) (All-nil (LeadsOn g from)));
        start = mark_kept bs c.callee from h.start;
        reached = h.reached;
        seen = λ i k. elim (mark_of bs c.callee i k) [
          | inl s ↦ inl (subst (In (ls ++ c.callee ∷ [])) (sym s) (in_last ls c.callee))
          | inr o ↦ elim (h.seen i o) [
            | inl q ↦ inl (in_left (c.callee ∷ []) q)
            | inr q ↦ elim q [ inl s ↦ inr (inl s) | inr r ↦ inr (inr (r.0, λ k d l. mark_kept bs c.callee _ (r.1 k d l))) ]
          ]
        ];
        marked_met = All-append P met (c ∷ []) (λ k d l. mark_kept bs c.callee _ (h.marked_met k d l)) (All-cons P c [] (mark_set bs c.callee (subst (λ n. c.callee < n) (sym h.long) within)) (All-nil P));
      }

  -- the call at a place of what is read as the calls of the template
  module _ (from to t i : ℕ) (d : Call) (cs : List Call) (row : cs ≡ calls_at g t) (l : i < length cs) (within : StaysWithin g) where
    pub callee_within : (get_or cs i d).callee < length g
    callee_within = subst (λ cs. (get_or cs i d).callee < length g) (sym row) (within t i d (subst (λ cs. i < length cs) row l))

    pub next_met : {bs more : List Bool} {ls rest : List ℕ} → Enters (get_or cs i d).callee bs more ls rest → Following from to t (take i (calls_at g t)) bs ls → Following from to t (take (i + 1) (calls_at g t)) more rest
    next_met {bs} {more} {ls} {rest} enters h =
        let here = subst (λ cs. i < length cs) row l in
        let c = get_or (calls_at g t) i d in
        subst (λ met. Following from to t met more rest) (sym (take_more (calls_at g t) i d here))
        (met_more from to t (take i (calls_at g t)) c (subst (λ cs. Enters (get_or cs i d).callee bs more ls rest) row enters) h (within t i d here) (c, among (in_place (calls_at g t) i d here), refl))

  pub popped_within : (from to t : ℕ) (bs : List Bool) (ls : List ℕ) → Searched from to bs (ls ++ t ∷ []) → t < length g
  popped_within from to t bs ls h = each (λ t. t < length g) (ls ++ t ∷ []) t h.inside (in_last ls t)

  pub all_met : (from to t : ℕ) (bs : List Bool) (ls : List ℕ) → t ≢ to → Following from to t (calls_at g t) bs ls → Searched from to bs ls
  all_met from to t bs ls other h = record {
    long = h.long;
    inside = h.inside;
    led = h.led;
    start = h.start;
    seen = λ i m. elim (h.seen i m) [
      | inl k ↦ inl k
      | inr k ↦ elim k [ inl s ↦ inr (subst (λ i. (i ≢ to) × All (λ (c : Call). marked bs c.callee ≡ true) (calls_at g i)) (sym s) (other, h.marked_met)) | inr r ↦ inr r ]
    ];
  }

  -- nothing is left
  pub none_left : (from to : ℕ) (bs : List Bool) → Searched from to bs [] → LeadElsewhere g to bs
  none_left from to bs h i m = elim (h.seen i m) [ inl k ↦ elim k [ ] | inr k ↦ k ]

  pub led_nowhere : (from to : ℕ) (bs : List Bool) → Searched from to bs [] → ¬ LeadsOn g from to
  led_nowhere from to bs h p = elsewhere to bs (none_left from to bs h) h.start refl p

-- each step leaves less
pub enters_less : {i : ℕ} {bs more : List Bool} {ls rest : List ℕ} → Enters i bs more ls rest → i < length bs → 2 * unmarked more + length rest ≤ 2 * unmarked bs + length ls
enters_less (known m) h = omega arith
enters_less {i} (entered {bs = bs} {ls = ls} m) h =
    let less = count_marked bs i h m in
    let more = length-append ls (i ∷ []) in
    omega arith

-- ## The first call that leads back

module _ (P : Call → Type 0) (cs : List Call) (k : ℕ) (d : Call) (h : k < length cs) where
  split_at : cs ≡ take k cs ++ get_or cs k d ∷ drop (suc k) cs
  split_at = sym (take-append-drop k cs) ∙ ap (λ rest. take k cs ++ rest) (drop-cons cs k d h)

  -- the first is behind those without the property
  pub first_at : All (λ c. ¬ P c) (take k cs) → P (get_or cs k d) → IsFirstWith P cs (get_or cs k d)
  first_at none p = subst (λ xs. IsFirstWith P xs (get_or cs k d)) (sym split_at) (first_behind P (take k cs) (drop (suc k) cs) (get_or cs k d) none p)
