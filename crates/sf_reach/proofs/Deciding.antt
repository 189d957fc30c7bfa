-- Whether templates reach one another.
use Rattle.std.proofs.Common.{◌≡◌, List, [], ◌∷◌, Bool, true, false, cond, Option, Some, None, ◌∙◌, sym, refl, subst, ◌⊎◌, inl, inr}
use Rattle.std.specs.Bool.{Decides}
use Rattle.std.specs.Str.{bytes_eq}
use Rattle.std.proofs.lemmas.Option.{same_Some, none-some}
use Rattle.std.proofs.lemmas.Slice.Eq.{bytes_eq-Decides}
use Rattle.sf_value.specs.Values.{Name}
use Rattle.sf_expr.specs.Expressions.{Pattern, Expression}
use Rattle.sf_term.specs.declared.form.Join.{Join}
use Rattle.sf_term.specs.declared.form.Observation.{Observation}
use Rattle.sf_term.specs.Trees.{Extent, Term, primitive, reference, started, call, Reference, Arguments, no_arguments, value_argument, process_argument, collection_argument, closed_argument, joined, sided, headed, transformed, switching, continuing, gathered, releasing, editing, staged, Collection, without_members, used, added, dropped, kept, chosen, Template, Templates, template_named}
use Rattle.sf_mean.specs.Calls.{Calls, calls_it, calls_within, left_calls, right_calls, side_calls, headed_calls, transformed_calls, switch_calls, source_calls, observer_calls, gathered_calls, members_call, their_observer_calls, editing_calls, stage_calls, stages_call, CollectionCalls, added_calls, past_added_calls, past_dropped_calls, past_kept_calls, one_calls, other_calls, ArgumentsCall, process_calls, collection_calls, closed_calls, past_value_calls, past_process_calls, past_collection_calls, past_closed_calls, ReachesTemplate, reaches, reaches_on}
use Rattle.sf_reach.specs.Names.{names}
use Rattle.sf_reach.specs.Order.{PlacedCall}
use Rattle.sf_reach.specs.Endless.{IsEndless}
use Rattle.sf_reach.proofs.Lists.{In, first, later}

-- it holds or not
abbrev pub Decided : Type 0 → Type 0
Decided P = P ⊎ ¬ P

same : {P Q : Type 0} → (P → Q) → (Q → P) → Decided P → Decided Q
same f g (inl p) = inl (f p)
same f g (inr n) = inr (λ q. n (g q))

one_of : {A B C : Type 0} → (A → C) → (B → C) → (C → A ⊎ B) → Decided A → Decided B → Decided C
one_of f g h (inl a) b = inl (f a)
one_of f g h (inr a) (inl b) = inl (g b)
one_of f g h (inr a) (inr b) = inr (λ c. elim (h c) [ inl x ↦ a x | inr y ↦ b y ])

all_of : {A B : Type 0} → Decided A → Decided B → Decided (A × B)
all_of (inl a) (inl b) = inl (a, b)
all_of (inl a) (inr b) = inr (λ c. b c.1)
all_of (inr a) b = inr (λ c. a c.0)

same_name : (x y : Name) → Decided (x ≡ y)
same_name x y = by (bytes_eq x y) (bytes_eq-Decides x y)
  where
    by : (b : Bool) → Decides b (x ≡ y) → Decided (x ≡ y)
    by true d = inl (d.0 refl)
    by false d = inr (λ e. let k = d.1 e in absurd cc)

-- ## Calls

called : {g h : Name} {vs : Arguments} → Calls (reference (call g vs)) h → (g ≡ h) ⊎ ArgumentsCall vs h
called calls_it = inl refl
called (calls_within c) = inr c

joined_call : {j : Join} {f g : Term} {h : Name} → Calls (joined j f g) h → Calls f h ⊎ Calls g h
joined_call (left_calls c) = inl c
joined_call (right_calls c) = inr c

kept_call : {w : Observation} {t q u : Term} {k : Name} {p : Pattern} {h : Name} → Calls (continuing w t q k p u) h → Calls t h ⊎ Calls q h
kept_call (source_calls c) = inl c
kept_call (observer_calls c) = inr c

released_call : {w : Observation} {i : Collection} {q u : Term} {k : Name} {p : Pattern} {h : Name} → Calls (releasing w i q k p u) h → CollectionCalls i h ⊎ Calls q h
released_call (members_call c) = inl c
released_call (their_observer_calls c) = inr c

added_call : {i : Collection} {j : Expression} {t : Term} {h : Name} → CollectionCalls (added i j t) h → Calls t h ⊎ CollectionCalls i h
added_call (added_calls c) = inl c
added_call (past_added_calls c) = inr c

chosen_call : {j : Expression} {a b : Collection} {h : Name} → CollectionCalls (chosen j a b) h → CollectionCalls a h ⊎ CollectionCalls b h
chosen_call (one_calls c) = inl c
chosen_call (other_calls c) = inr c

staged_call : {x : Extent} {f g : Term} {h : Name} → Calls (staged x f g) h → Calls f h ⊎ Calls g h
staged_call (stage_calls c) = inl c
staged_call (stages_call c) = inr c

process_call : {t : Term} {vs : Arguments} {h : Name} → ArgumentsCall (process_argument t vs) h → Calls t h ⊎ ArgumentsCall vs h
process_call (process_calls c) = inl c
process_call (past_process_calls c) = inr c

collection_call : {i : Collection} {vs : Arguments} {h : Name} → ArgumentsCall (collection_argument i vs) h → CollectionCalls i h ⊎ ArgumentsCall vs h
collection_call (collection_calls c) = inl c
collection_call (past_collection_calls c) = inr c

closed_call : {t : Term} {vs : Arguments} {h : Name} → ArgumentsCall (closed_argument t vs) h → Calls t h ⊎ ArgumentsCall vs h
closed_call (closed_calls c) = inl c
closed_call (past_closed_calls c) = inr c

mutual
  calls_or_not : (t : Term) (h : Name) → Decided (Calls t h)
  calls_or_not (primitive p) h = inr (λ c. elim c [ ])
  calls_or_not (reference r) h = reference_or_not r h
  calls_or_not (joined j f g) h = one_of (λ c. left_calls c) (λ c. right_calls c) (λ c. joined_call c) (calls_or_not f h) (calls_or_not g h)
  calls_or_not (sided d t) h = same (λ c. side_calls c) (λ c. elim c [ side_calls k ↦ k ]) (calls_or_not t h)
  calls_or_not (headed w i t) h = same (λ c. headed_calls c) (λ c. elim c [ headed_calls k ↦ k ]) (calls_or_not t h)
  calls_or_not (transformed f t) h = same (λ c. transformed_calls c) (λ c. elim c [ transformed_calls k ↦ k ]) (calls_or_not t h)
  calls_or_not (switching w t p u) h = same (λ c. switch_calls c) (λ c. elim c [ switch_calls k ↦ k ]) (calls_or_not t h)
  calls_or_not (continuing w t q k p u) h = one_of (λ c. source_calls c) (λ c. observer_calls c) (λ c. kept_call c) (calls_or_not t h) (calls_or_not q h)
  calls_or_not (gathered i) h = same (λ c. gathered_calls c) (λ c. elim c [ gathered_calls k ↦ k ]) (collection_or_not i h)
  calls_or_not (releasing w i q k p u) h = one_of (λ c. members_call c) (λ c. their_observer_calls c) (λ c. released_call c) (collection_or_not i h) (calls_or_not q h)
  calls_or_not (editing w i k p u) h = same (λ c. editing_calls c) (λ c. elim c [ editing_calls k ↦ k ]) (collection_or_not i h)
  calls_or_not (staged x f g) h = one_of (λ c. stage_calls c) (λ c. stages_call c) (λ c. staged_call c) (calls_or_not f h) (calls_or_not g h)

  collection_or_not : (i : Collection) (h : Name) → Decided (CollectionCalls i h)
  collection_or_not (without_members k t) h = inr (λ c. elim c [ ])
  collection_or_not (used x) h = inr (λ c. elim c [ ])
  collection_or_not (added i j t) h = one_of (λ c. added_calls c) (λ c. past_added_calls c) (λ c. added_call c) (calls_or_not t h) (collection_or_not i h)
  collection_or_not (dropped i j) h = same (λ c. past_dropped_calls c) (λ c. elim c [ past_dropped_calls k ↦ k ]) (collection_or_not i h)
  collection_or_not (kept i f) h = same (λ c. past_kept_calls c) (λ c. elim c [ past_kept_calls k ↦ k ]) (collection_or_not i h)
  collection_or_not (chosen j a b) h = one_of (λ c. one_calls c) (λ c. other_calls c) (λ c. chosen_call c) (collection_or_not a h) (collection_or_not b h)

  reference_or_not : (r : Reference) (h : Name) → Decided (Calls (reference r) h)
  reference_or_not (started w k) h = inr (λ c. elim c [ ])
  reference_or_not (call g vs) h = one_of (λ e. subst (Calls (reference (call g vs))) e calls_it) (λ c. calls_within c) (λ c. called c) (same_name g h) (arguments_or_not vs h)

  arguments_or_not : (vs : Arguments) (h : Name) → Decided (ArgumentsCall vs h)
  arguments_or_not no_arguments h = inr (λ c. elim c [ ])
  arguments_or_not (value_argument i vs) h = same (λ c. past_value_calls c) (λ c. elim c [ past_value_calls k ↦ k ]) (arguments_or_not vs h)
  arguments_or_not (process_argument t vs) h = one_of (λ c. process_calls c) (λ c. past_process_calls c) (λ c. process_call c) (calls_or_not t h) (arguments_or_not vs h)
  arguments_or_not (collection_argument i vs) h = one_of (λ c. collection_calls c) (λ c. past_collection_calls c) (λ c. collection_call c) (collection_or_not i h) (arguments_or_not vs h)
  arguments_or_not (closed_argument t vs) h = one_of (λ c. closed_calls c) (λ c. past_closed_calls c) (λ c. closed_call c) (calls_or_not t h) (arguments_or_not vs h)

-- ## Templates that call templates, past some

module _ (ts : Templates) where
  -- the template of a name calls another
  abbrev Edge : Name → Name → Type 0
  Edge g h = (t : Template) × (template_named g ts ≡ Some t) × Calls t.body h

  edge_or_not : (g h : Name) → Decided (Edge g h)
  edge_or_not g h = by (template_named g ts) refl
    where
      by : (o : Option Template) → template_named g ts ≡ o → Decided (Edge g h)
      by None e = inr (λ k. none-some k.0 (sym e ∙ k.1))
      by (Some t) e = same (λ c. (t, e, c)) (λ k. subst (λ (t : Template). Calls t.body h) (same_Some _ _ (sym k.1 ∙ e)) k.2) (calls_or_not t.body h)

  -- one reaches another past templates of these names alone
  abbrev Through : List Name → Name → Name → Type 0
  Through [] g h = Edge g h
  Through (k ∷ ks) g h = Through ks g h ⊎ (Through ks g k × Through ks k h)

  through_or_not : (ks : List Name) (g h : Name) → Decided (Through ks g h)
  through_or_not [] g h = edge_or_not g h
  through_or_not (k ∷ ks) g h = one_of (λ c. inl c) (λ c. inr c) (λ c. c) (through_or_not ks g h) (all_of (through_or_not ks g k) (through_or_not ks k h))

  pub onto : {g h k : Name} → ReachesTemplate ts g h → ReachesTemplate ts h k → ReachesTemplate ts g k
  onto (reaches n c) r = reaches_on n c r
  onto (reaches_on n c q) r = reaches_on n c (onto q r)

  through_reaches : (ks : List Name) (g h : Name) → Through ks g h → ReachesTemplate ts g h
  through_reaches [] g h e = reaches e.1 e.2
  through_reaches (k ∷ ks) g h (inl e) = through_reaches ks g h e
  through_reaches (k ∷ ks) g h (inr e) = onto (through_reaches ks g k e.0) (through_reaches ks k h e.1)

  edge_through : (ks : List Name) (g h : Name) → Edge g h → Through ks g h
  edge_through [] g h e = e
  edge_through (k ∷ ks) g h e = inl (edge_through ks g h e)

  to_it : (k : Name) (ks : List Name) (g : Name) → Through (k ∷ ks) g k → Through ks g k
  to_it k ks g (inl e) = e
  to_it k ks g (inr e) = e.0

  from_it : (k : Name) (ks : List Name) (h : Name) → Through (k ∷ ks) k h → Through ks k h
  from_it k ks h (inl e) = e
  from_it k ks h (inr e) = e.1

  -- past one of them
  past : {ks : List Name} {m : Name} → In ks m → (g h : Name) → Through ks g m → Through ks m h → Through ks g h
  past (first {x = k} {xs = ks}) g h a b = inr (to_it k ks g a, from_it k ks h b)
  past (later i) g h (inl a) (inl b) = inl (past i g h a b)
  past (later {y = k} i) g h (inl a) (inr b) = inr (past i g k a b.0, b.1)
  past (later {y = k} i) g h (inr a) (inl b) = inr (a.0, past i k h a.1 b)
  past (later i) g h (inr a) (inr b) = inr (a.0, b.1)

named_in : (ts : Templates) (x : Name) (t : Template) → template_named x ts ≡ Some t → In (names ts) x
named_in [] x t e = absurd (none-some t e)
named_in (u ∷ ts) x t e = by (bytes_eq x u.name) (bytes_eq-Decides x u.name) e (named_in ts x t)
  where
    by : (b : Bool) → Decides b (x ≡ u.name) → cond b (Some u) (template_named x ts) ≡ Some t → (template_named x ts ≡ Some t → In (names ts) x) → In (names (u ∷ ts)) x
    by true d e rest = subst (In (names (u ∷ ts))) (sym (d.0 refl)) first
    by false d e rest = later (rest e)

-- what reaches a template is there
pub reacher_named : {ts : Templates} {g h : Name} → ReachesTemplate ts g h → (t : Template) × (template_named g ts ≡ Some t)
reacher_named (reaches {t = t} n c) = (t, n)
reacher_named (reaches_on {t = t} n c r) = (t, n)

reaches_through : {ts : Templates} {g h : Name} → ReachesTemplate ts g h → Through ts (names ts) g h
reaches_through {ts} {g} {h} (reaches {t = t} n c) = edge_through ts (names ts) g h (t, n, c)
reaches_through {ts} {g} {h = k} (reaches_on {h = h} {t = t} n c r) =
    let u = reacher_named r in
    past ts (named_in ts h u.0 u.1) g k (edge_through ts (names ts) g h (t, n, c)) (reaches_through r)

pub reaches_or_not : (ts : Templates) (g h : Name) → Decided (ReachesTemplate ts g h)
reaches_or_not ts g h = same (λ c. through_reaches ts (names ts) g h c) (λ c. reaches_through c) (through_or_not ts (names ts) g h)

pub endless_or_not : (ts : Templates) (x : Name) (c : PlacedCall) → Decided (IsEndless ts x c)
endless_or_not ts x c = one_of (λ e. inl e) (λ r. inr r) (λ k. k) (same_name c.name x) (reaches_or_not ts c.name x)
