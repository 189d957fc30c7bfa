-- The output types that are found are those that terms take inputs to.
use Rattle.std.proofs.Common.{ℤ, ◌≡◌, arith, Bool, true, false, ◌&&◌, cond, [], ◌∷◌, Some, None, refl, sym, ap, subst, ◌∙◌}
use Rattle.std.specs.Prelude.{Option, nat_le}
use mathlib.Core.Path.{ap₂, subst₂}
use Rattle.sf_value.specs.Values.{Name, KeyKind, Kind, unit_kind, bool_kind, int_kind, text_kind, pair_kind, event_kind, table_kind, nodes, IsNoPair}
use Rattle.sf_operator.specs.Kinds.{same_kind, only, parts_of, payload_of, kind_of_keys}
use Rattle.sf_operator.proofs.SameKinds.{same_is, is_same, found_is, only_is, parts_is, payload_is}
use Rattle.sf_func.specs.Registries.{TypesByName}
use Rattle.sf_expr.specs.Expressions.{Pattern, Expression, Function}
use Rattle.sf_expr.specs.Typing.{Names, typed_name, Fits, HasType, AddsNames, adds_nothing, adds_name, adds_both, Binds}
use Rattle.sf_expr.specs.Inference.{found_then, fitting, names_bound, expression_type, function_output}
use Rattle.sf_expr.proofs.Inferred.{test_fits, fits_test, bound_found, found_bound, fitting_is, fitting_found, found_typed, typed_found, output_takes, takes_output}
use Rattle.sf_term.specs.declared.form.Timing.{Timing}
use Rattle.sf_term.specs.declared.form.Selection.{Selection}
use Rattle.sf_term.specs.declared.form.Join.{Join}
use Rattle.sf_term.specs.declared.form.Join.TheVariants.{InSequence, InParallel, FannedOut}
use Rattle.sf_term.specs.declared.form.Side.{Side}
use Rattle.sf_term.specs.declared.form.Side.TheVariants.{First, Second}
use Rattle.sf_term.specs.declared.form.Heading.TheVariants.{LoopPre, Initialized, Replaced, Followed}
use Rattle.sf_term.specs.Trees.{Chain, lone, chained, on_side, on_both, fanned, Primitive, bare, probe, never, with_value, timed, selected, arrow, accumulated, fused, Extent, Term, primitive, Reference, reference, started, call, Arguments, no_arguments, value_argument, process_argument, collection_argument, closed_argument, joined, sided, headed, transformed, switching, continuing, gathered, releasing, editing, staged, Collection, without_members, used, added, dropped, chosen}
use Rattle.sf_term.specs.Trees
use Rattle.sf_term.specs.Parameters.{NameKind, value, process, collection, Bindings}
use Rattle.sf_term.specs.declared.form.Observation.{Observation}
use Rattle.sf_term.specs.declared.form.Start.{Start}
use Rattle.sf_term.specs.declared.form.Switching.TheVariants.{Basic, Recurring}
use Rattle.sf_mean.specs.Contexts.{Signature, signature_named, bound_values, bindings_inside, Context, names_of_values, inside_pattern, inside_process, inside_collection, process_named, collection_named}
use Rattle.sf_mean.specs.Typing.{ChainTakes, lone_takes, chained_takes, on_first_takes, on_second_takes, on_both_takes, fanned_takes, bare_kind, value_kind, accumulated_argument, accumulated_kind, takes_input, takes_time, timed_kind, takes_number, selected_kind, PrimitiveTakes, bare_takes, probe_takes, never_takes, value_takes, timed_takes, selected_takes, accumulated_takes, arrow_takes, fused_takes, Takes, takes, FormTakes, primitive_takes, started_takes, call_takes, Collects, collects_none, collects_used, collects_added, collects_dropped, collects_kept, collects_chosen, ArgumentsFit, no_argument_fits, value_fits, process_fits, closed_fits, sequence_takes, parallel_takes, fan_takes, first_takes, second_takes, loop_takes, initialized_takes, replaced_takes, followed_takes, transformed_takes, switch_takes, continuing_takes, recurring_takes, stages_take, gathered_takes, releasing_takes, editing_takes, collection_fits}
use Rattle.sf_mean.specs.Inference.{Finds, both_outputs, join_output, side_output, first_beside, heading_output, transformed_output, body_output, switch_output, continuing_output, process_output, chain_output, primitive_output, finds_fitting, is_found, value_is_argument, process_is_argument, call_output, form_output, reference_output, arguments_fit, term_output, used_output, keyed_table, with_member, finds_kept, one_of_both, inside_members, editing_output, collection_is_argument, collection_output}

-- ## Types of pairs

-- what a type has as its parts
pub data PartsAre : Kind → Option (Kind × Kind) → Type 0 where
  two_parts : {t u : Kind} → PartsAre (pair_kind t u) (Some (t, u))
  no_parts : {t : Kind} → IsNoPair t → PartsAre t None

pub parts_are : (t : Kind) → PartsAre t (parts_of t)
parts_are unit_kind = no_parts (λ t u e. cc)
parts_are bool_kind = no_parts (λ t u e. cc)
parts_are int_kind = no_parts (λ t u e. cc)
parts_are text_kind = no_parts (λ t u e. cc)
parts_are (pair_kind t u) = two_parts
parts_are (event_kind v) = no_parts (λ t u e. cc)
parts_are (table_kind k v) = no_parts (λ t u e. cc)

-- ## What was found, by the groups of forms

-- what was found and then went on
pub data Went (f g : Finds) (a c : Kind) : Type 0 where
  went : {b : Kind} → f a ≡ Some b → g b ≡ Some c → Went f g a c

found_went : (f g : Finds) (a c : Kind) → found_then (f a) g ≡ Some c → Went f g a c
found_went f g a c = each (f a) refl
  where
    each : (o : Option Kind) → f a ≡ o → found_then o g ≡ Some c → Went f g a c
    each (Some b) h e = went h e
    each None h e = absurd cc

-- two outputs that make a type of pairs
pub data Pairs (o p : Option Kind) (c : Kind) : Type 0 where
  pairs : {t u : Kind} → o ≡ Some t → p ≡ Some u → pair_kind t u ≡ c → Pairs o p c

found_pairs : (o p : Option Kind) (c : Kind) → both_outputs o p ≡ Some c → Pairs o p c
found_pairs (Some t) (Some u) c h = pairs refl refl cc
found_pairs (Some t) None c h = absurd cc
found_pairs None p c h = absurd cc

pub data JoinIs (f g : Finds) : Join → Kind → Kind → Type 0 where
  in_sequence : {a c : Kind} → Went f g a c → JoinIs f g InSequence a c
  in_parallel : {a b c d : Kind} → f a ≡ Some b → g c ≡ Some d → JoinIs f g InParallel (pair_kind a c) (pair_kind b d)
  fanned_out : {a b c : Kind} → f a ≡ Some b → g a ≡ Some c → JoinIs f g FannedOut a (pair_kind b c)

join_found : (j : Join) (f g : Finds) (a c : Kind) → join_output j f g a ≡ Some c → JoinIs f g j a c
join_found InSequence f g a c h = in_sequence (found_went f g a c h)
join_found InParallel f g a c h = each (parts_are a) h
  where
    each : {a : Kind} {parts : Option (Kind × Kind)} → PartsAre a parts → found_then parts (λ p. both_outputs (f p.0) (g p.1)) ≡ Some c → JoinIs f g InParallel a c
    each (two_parts {t = a} {u = b}) h = elim (found_pairs (f a) (g b) c h) [ pairs o p e ↦ subst (JoinIs f g InParallel (pair_kind a b)) e (in_parallel o p) ]
    each (no_parts n) h = absurd cc
join_found FannedOut f g a c h = elim (found_pairs (f a) (g a) c h) [ pairs o p e ↦ subst (JoinIs f g FannedOut a) e (fanned_out o p) ]

pub data SideIs (f : Finds) : Side → Kind → Kind → Type 0 where
  on_the_first : {a b c : Kind} → f a ≡ Some b → SideIs f First (pair_kind a c) (pair_kind b c)
  on_the_second : {a b c : Kind} → f a ≡ Some b → SideIs f Second (pair_kind c a) (pair_kind c b)

same_some : {t u : Kind} → Some t ≡ Some u → t ≡ u
same_some h = cc

side_found : (d : Side) (f : Finds) (a b : Kind) → side_output d f a ≡ Some b → SideIs f d a b
side_found First f a b h = each (parts_are a) h
  where
    each : {a : Kind} {parts : Option (Kind × Kind)} → PartsAre a parts → found_then parts (λ p. both_outputs (f p.0) (Some p.1)) ≡ Some b → SideIs f First a b
    each (two_parts {t = a} {u = c}) h = elim (found_pairs (f a) (Some c) b h) [ pairs {t = d} o p e ↦ subst (SideIs f First (pair_kind a c)) (ap (pair_kind d) (same_some p) ∙ e) (on_the_first o) ]
    each (no_parts n) h = absurd cc
side_found Second f a b h = each (parts_are a) h
  where
    each : {a : Kind} {parts : Option (Kind × Kind)} → PartsAre a parts → found_then parts (λ p. both_outputs (Some p.0) (f p.1)) ≡ Some b → SideIs f Second a b
    each (two_parts {t = c} {u = a}) h = elim (found_pairs (Some c) (f a) b h) [ pairs {u = d} p o e ↦ subst (SideIs f Second (pair_kind c a)) (ap (λ v. pair_kind v d) (same_some p) ∙ e) (on_the_second o) ]
    each (no_parts n) h = absurd cc

-- ## Within the bound

pub record Fitting (f : Finds) (a b : Kind) : Type 0 where
  pub input : Fits a
  pub output : Fits b
  pub is : f a ≡ Some b

fitting_inside : (f : Finds) (a b : Kind) → finds_fitting f a ≡ Some b → Fitting f a b
fitting_inside f a b = each (nat_le (nodes a) 256) refl
  where
    each : (t : Bool) → nat_le (nodes a) 256 ≡ t → cond t (found_then (f a) fitting) None ≡ Some b → Fitting f a b
    each true h e = elim (found_went f fitting a b e) [
      | went {b = c} k g ↦
          let fit = fitting_found c b g in
          record { input = fits_test a h; output = subst Fits fit.is fit.fits; is = k ∙ ap Some fit.is }
    ]
    each false h e = absurd cc

inside_fitting : (f : Finds) (a b : Kind) → Fits a → Fits b → f a ≡ Some b → finds_fitting f a ≡ Some b
inside_fitting f a b h k e = rw (test_fits a h, e) (fitting_is b k)

module _ {Γ : Context} where
  -- ## Functions made into one

  pub chain_takes : (f : Chain) (a b : Kind) → chain_output Γ f a ≡ Some b → ChainTakes Γ f a b
  chain_takes (lone f) a b h = lone_takes (output_takes (names_of_values Γ) f a b h)
  chain_takes (chained f g) a b h = joins f g (chain_takes f) (chain_takes g) (join_found InSequence (chain_output Γ f) (chain_output Γ g) a b h)
    where
      joins : (f g : Chain) → ((a b : Kind) → chain_output Γ f a ≡ Some b → ChainTakes Γ f a b) → ((a b : Kind) → chain_output Γ g a ≡ Some b → ChainTakes Γ g a b) → JoinIs (chain_output Γ f) (chain_output Γ g) InSequence a b → ChainTakes Γ (chained f g) a b
      joins f g F G (in_sequence (went h k)) = chained_takes (F _ _ h) (G _ _ k)
  chain_takes (on_side d f) a b h = sides d f (chain_takes f) (side_found d (chain_output Γ f) a b h)
    where
      sides : (d : Side) (f : Chain) → ((a b : Kind) → chain_output Γ f a ≡ Some b → ChainTakes Γ f a b) → {a b : Kind} → SideIs (chain_output Γ f) d a b → ChainTakes Γ (on_side d f) a b
      sides First f F (on_the_first h) = on_first_takes (F _ _ h)
      sides Second f F (on_the_second h) = on_second_takes (F _ _ h)
  chain_takes (on_both f g) a b h = joins f g (chain_takes f) (chain_takes g) (join_found InParallel (chain_output Γ f) (chain_output Γ g) a b h)
    where
      joins : (f g : Chain) → ((a b : Kind) → chain_output Γ f a ≡ Some b → ChainTakes Γ f a b) → ((a b : Kind) → chain_output Γ g a ≡ Some b → ChainTakes Γ g a b) → {a b : Kind} → JoinIs (chain_output Γ f) (chain_output Γ g) InParallel a b → ChainTakes Γ (on_both f g) a b
      joins f g F G (in_parallel h k) = on_both_takes (F _ _ h) (G _ _ k)
  chain_takes (fanned f g) a b h = joins f g (chain_takes f) (chain_takes g) (join_found FannedOut (chain_output Γ f) (chain_output Γ g) a b h)
    where
      joins : (f g : Chain) → ((a b : Kind) → chain_output Γ f a ≡ Some b → ChainTakes Γ f a b) → ((a b : Kind) → chain_output Γ g a ≡ Some b → ChainTakes Γ g a b) → {a b : Kind} → JoinIs (chain_output Γ f) (chain_output Γ g) FannedOut a b → ChainTakes Γ (fanned f g) a b
      joins f g F G (fanned_out h k) = fanned_takes (F _ _ h) (G _ _ k)

  pub chain_found : {f : Chain} {a b : Kind} → ChainTakes Γ f a b → chain_output Γ f a ≡ Some b
  chain_found (lone_takes F) = takes_output F
  chain_found (chained_takes F G) = rw (chain_found F) (chain_found G)
  chain_found (on_first_takes F) = rw (chain_found F) refl
  chain_found (on_second_takes F) = rw (chain_found F) refl
  chain_found (on_both_takes F G) = rw (chain_found F, chain_found G) refl
  chain_found (fanned_takes F G) = rw (chain_found F, chain_found G) refl

  -- ## Primitives

  timed_found : (k : Timing) (q : ℤ) (e : Expression) (v a b : Kind) → HasType (names_of_values Γ) e v → (i t : Bool) → takes_input k v a ≡ i → takes_time k q ≡ t → cond (i && t) (found_then (timed_kind k v) fitting) None ≡ Some b → PrimitiveTakes Γ (timed k q e) a b
  timed_found k q e v a b E true true m h g =
      let made = found_is (timed_kind k v) fitting g in
      let fit = fitting_found made.0 b made.2 in
      timed_takes E m h (made.1 ∙ ap Some fit.is) (subst Fits fit.is fit.fits)
  timed_found k q e v a b E true false m h g = absurd cc
  timed_found k q e v a b E false t m h g = absurd cc

  selected_found : (k : Selection) (n : ℤ) (a c b : Kind) → selected_kind a ≡ Some c → (t : Bool) → takes_number n ≡ t → cond t (fitting c) None ≡ Some b → PrimitiveTakes Γ (selected k n) a b
  selected_found k n a c b h true g f =
      let fit = fitting_found c b f in
      selected_takes (h ∙ ap Some fit.is) g (subst Fits fit.is fit.fits)
  selected_found k n a c b h false g f = absurd cc

  pub primitive_found : (p : Primitive) (a b : Kind) → primitive_output Γ p a ≡ Some b → PrimitiveTakes Γ p a b
  primitive_found (bare k) a b h =
      let made = found_is (bare_kind k a) fitting h in
      let fit = fitting_found made.0 b made.2 in
      bare_takes (made.1 ∙ ap Some fit.is) (subst Fits fit.is fit.fits)
  primitive_found (probe k) a b h =
      let fit = fitting_found a b h in
      subst (λ b. PrimitiveTakes Γ (probe k) a b) fit.is (probe_takes fit.fits)
  primitive_found (never t) a b h =
      let fit = fitting_found (event_kind t) b h in
      subst (λ b. PrimitiveTakes Γ (never t) a b) fit.is (never_takes fit.fits)
  primitive_found (with_value k e) a b h =
      let made = found_is (found_then (expression_type (names_of_values Γ) e) (λ v. value_kind k v a)) fitting h in
      let fit = fitting_found made.0 b made.2 in
      let given = found_is (expression_type (names_of_values Γ) e) (λ v. value_kind k v a) made.1 in
      value_takes (found_typed (names_of_values Γ) e given.0 given.1) (given.2 ∙ ap Some fit.is) (subst Fits fit.is fit.fits)
  primitive_found (arrow f) a b h = arrow_takes (output_takes (names_of_values Γ) f a b h)
  primitive_found (timed k q e) a b h =
      let given = found_is (expression_type (names_of_values Γ) e) (λ v. cond (takes_input k v a && takes_time k q) (found_then (timed_kind k v) fitting) None) h in
      timed_found k q e given.0 a b (found_typed (names_of_values Γ) e given.0 given.1) (takes_input k given.0 a) (takes_time k q) refl refl given.2
  primitive_found (selected k n) a b h =
      let made = found_is (selected_kind a) (λ b. cond (takes_number n) (fitting b) None) h in
      selected_found k n a made.0 b made.1 (takes_number n) refl made.2
  primitive_found (accumulated k e f) a b h =
      let R = names_of_values Γ in
      let given = found_is (expression_type R e) (λ v. found_then (accumulated_argument k v a) (λ c. found_then (function_output R f c) (λ u. found_then (accumulated_kind k v a u) fitting))) h in
      let argument = found_is (accumulated_argument k given.0 a) (λ c. found_then (function_output R f c) (λ u. found_then (accumulated_kind k given.0 a u) fitting)) given.2 in
      let made = found_is (function_output R f argument.0) (λ u. found_then (accumulated_kind k given.0 a u) fitting) argument.2 in
      let whole = found_is (accumulated_kind k given.0 a made.0) fitting made.2 in
      let fit = fitting_found whole.0 b whole.2 in
      accumulated_takes (found_typed R e given.0 given.1) argument.1 (output_takes R f argument.0 made.0 made.1) (whole.1 ∙ ap Some fit.is) (subst Fits fit.is fit.fits)
  primitive_found (fused f) a b h = elim (found_went (chain_output Γ f) fitting a b h) [
    | went {b = c} k e ↦
        let fit = fitting_found c b e in
        fused_takes (chain_takes f a b (k ∙ ap Some fit.is)) (subst Fits fit.is fit.fits)
  ]

  pub primitive_is : {p : Primitive} {a b : Kind} → PrimitiveTakes Γ p a b → primitive_output Γ p a ≡ Some b
  primitive_is (probe_takes {a = a} f) = fitting_is a f
  primitive_is (never_takes {t = t} f) = fitting_is (event_kind t) f
  primitive_is (bare_takes {b = b} h f) = ap (λ o. found_then o fitting) h ∙ fitting_is b f
  primitive_is (value_takes {k = k} {a = a} {b = b} E h f) = ap (λ o. found_then (found_then o (λ v. value_kind k v a)) fitting) (typed_found E) ∙ ap (λ o. found_then o fitting) h ∙ fitting_is b f
  primitive_is (arrow_takes F) = takes_output F
  primitive_is (timed_takes {k = k} {q = q} {v = v} {a = a} {b = b} E m h g f) =
      ap (λ o. found_then o (λ v. cond (takes_input k v a && takes_time k q) (found_then (timed_kind k v) fitting) None)) (typed_found E)
      ∙ ap₂ (λ i t. cond (i && t) (found_then (timed_kind k v) fitting) None) m h ∙ ap (λ o. found_then o fitting) g ∙ fitting_is b f
  primitive_is (selected_takes {n = n} {b = b} h g f) =
      ap (λ o. found_then o (λ b. cond (takes_number n) (fitting b) None)) h ∙ ap (λ t. cond t (fitting b) None) g ∙ fitting_is b f
  primitive_is (accumulated_takes {k = k} {f = f} {v = v} {a = a} {c = c} {b = b} E q F h g) =
      let R = names_of_values Γ in
      ap (λ o. found_then o (λ v. found_then (accumulated_argument k v a) (λ c. found_then (function_output R f c) (λ u. found_then (accumulated_kind k v a u) fitting)))) (typed_found E)
      ∙ ap (λ o. found_then o (λ c. found_then (function_output R f c) (λ u. found_then (accumulated_kind k v a u) fitting))) q
      ∙ ap (λ o. found_then o (λ u. found_then (accumulated_kind k v a u) fitting)) (takes_output F)
      ∙ ap (λ o. found_then o fitting) h ∙ fitting_is b g
  primitive_is (fused_takes {b = b} F h) = ap (λ o. found_then o fitting) (chain_found F) ∙ fitting_is b h

-- ## Terms: each takes what is found for its form, within the bound

within : (Γ : Context) (t : Term) → ((a b : Kind) → form_output Γ t a ≡ Some b → FormTakes Γ t a b) → (a b : Kind) → term_output Γ t a ≡ Some b → Takes Γ t a b
within Γ t F a b h = let k = fitting_inside (form_output Γ t) a b h in takes k.input k.output (F a b k.is)

joins : (Γ : Context) (j : Join) (f g : Term) → ((a b : Kind) → term_output Γ f a ≡ Some b → Takes Γ f a b) → ((a b : Kind) → term_output Γ g a ≡ Some b → Takes Γ g a b) → {a b : Kind} → JoinIs (term_output Γ f) (term_output Γ g) j a b → FormTakes Γ (joined j f g) a b
joins Γ j f g F G (in_sequence (went h k)) = sequence_takes (F _ _ h) (G _ _ k)
joins Γ j f g F G (in_parallel h k) = parallel_takes (F _ _ h) (G _ _ k)
joins Γ j f g F G (fanned_out h k) = fan_takes (F _ _ h) (G _ _ k)

sides : (Γ : Context) (d : Side) (t : Term) → ((a b : Kind) → term_output Γ t a ≡ Some b → Takes Γ t a b) → {a b : Kind} → SideIs (term_output Γ t) d a b → FormTakes Γ (sided d t) a b
sides Γ d t F (on_the_first h) = first_takes (F _ _ h)
sides Γ d t F (on_the_second h) = second_takes (F _ _ h)

loops : (Γ : Context) (e : Expression) (t : Term) → ((a b : Kind) → term_output Γ t a ≡ Some b → Takes Γ t a b) → (a b c : Kind) → expression_type (names_of_values Γ) e ≡ Some c → Went (term_output Γ t) (first_beside c) (pair_kind a c) b → FormTakes Γ (headed LoopPre e t) a b
loops Γ e t F a b c h (went {b = d} k g) = each (parts_are d) k g
  where
    observed_life : (v w : Kind) → term_output Γ t (pair_kind a c) ≡ Some (pair_kind v w) → (s : Bool) → same_kind c w ≡ s → cond s (Some v) None ≡ Some b → FormTakes Γ (headed LoopPre e t) a b
    observed_life v w k true q g =
        let is : v ≡ b = cc in
        subst (FormTakes Γ (headed LoopPre e t) a) is (loop_takes (found_typed (names_of_values Γ) e c h) (F (pair_kind a c) (pair_kind v c) (k ∙ ap (λ d. Some (pair_kind v d)) (sym (same_is c w q)))))
    observed_life v w k false q g = absurd cc

    each : {d : Kind} {parts : Option (Kind × Kind)} → PartsAre d parts → term_output Γ t (pair_kind a c) ≡ Some d → found_then parts (λ p. cond (same_kind c p.1) (Some p.0) None) ≡ Some b → FormTakes Γ (headed LoopPre e t) a b
    each (two_parts {t = v} {u = w}) k g = observed_life v w k (same_kind c w) refl g
    each (no_parts n) k g = absurd cc

looped : (Γ : Context) (e : Expression) (t : Term) → ((a b : Kind) → term_output Γ t a ≡ Some b → Takes Γ t a b) → (a b : Kind) (o : Option Kind) → expression_type (names_of_values Γ) e ≡ o → heading_output LoopPre o (term_output Γ t) a ≡ Some b → FormTakes Γ (headed LoopPre e t) a b
looped Γ e t F a b (Some c) h k = loops Γ e t F a b c h (found_went (term_output Γ t) (first_beside c) (pair_kind a c) b k)
looped Γ e t F a b None h k = absurd cc

initialized : (Γ : Context) (e : Expression) (t : Term) → ((a b : Kind) → term_output Γ t a ≡ Some b → Takes Γ t a b) → (a b : Kind) (o : Option Kind) → expression_type (names_of_values Γ) e ≡ o → heading_output Initialized o (term_output Γ t) a ≡ Some b → FormTakes Γ (headed Initialized e t) a b
initialized Γ e t F a b (Some c) h k =
    let made = found_is (term_output Γ t a) (λ b. only b c (Some b)) k in
    let same = only_is made.0 c (Some made.0) made.2 in
    let is : made.0 ≡ b = same_some same.1 in
    initialized_takes (subst (HasType (names_of_values Γ) e) (sym same.0 ∙ is) (found_typed (names_of_values Γ) e c h)) (F a b (made.1 ∙ ap Some is))
initialized Γ e t F a b None h k = absurd cc

replaced : (Γ : Context) (e : Expression) (t : Term) → ((a b : Kind) → term_output Γ t a ≡ Some b → Takes Γ t a b) → (a b : Kind) (o : Option Kind) → expression_type (names_of_values Γ) e ≡ o → heading_output Replaced o (term_output Γ t) a ≡ Some b → FormTakes Γ (headed Replaced e t) a b
replaced Γ e t F a b (Some c) h k =
    let same = only_is c a (term_output Γ t a) k in
    replaced_takes (subst (HasType (names_of_values Γ) e) same.0 (found_typed (names_of_values Γ) e c h)) (F a b same.1)
replaced Γ e t F a b None h k = absurd cc

followed : (Γ : Context) (e : Expression) (t : Term) → ((a b : Kind) → term_output Γ t a ≡ Some b → Takes Γ t a b) → (a b : Kind) (o : Option Kind) → expression_type (names_of_values Γ) e ≡ o → heading_output Followed o (term_output Γ t) a ≡ Some b → FormTakes Γ (headed Followed e t) a b
followed Γ e t F a b (Some c) h k =
    let made = found_is (term_output Γ t a) (λ b. only b c (Some b)) k in
    let same = only_is made.0 c (Some made.0) made.2 in
    let is : made.0 ≡ b = same_some same.1 in
    followed_takes (subst (HasType (names_of_values Γ) e) (sym same.0 ∙ is) (found_typed (names_of_values Γ) e c h)) (F a b (made.1 ∙ ap Some is))
followed Γ e t F a b None h k = absurd cc

changed_first : (Γ : Context) (f : Function) (t : Term) → ((a b : Kind) → term_output Γ t a ≡ Some b → Takes Γ t a b) → (a b : Kind) (o : Option Kind) → function_output (names_of_values Γ) f a ≡ o → transformed_output o (term_output Γ t) a ≡ Some b → FormTakes Γ (transformed f t) a b
changed_first Γ f t F a b (Some c) h k =
    let same = only_is c a (term_output Γ t a) k in
    transformed_takes (output_takes (names_of_values Γ) f a a (h ∙ ap Some same.0)) (F a b same.1)
changed_first Γ f t F a b None h k = absurd cc

stages : (Γ : Context) (x : Extent) (f g : Term) {a b : Kind} → ((a b : Kind) → term_output Γ f a ≡ Some b → Takes Γ f a b) → ((a b : Kind) → term_output Γ g a ≡ Some b → Takes Γ g a b) → Went (term_output Γ f) (term_output Γ g) a b → FormTakes Γ (staged x f g) a b
stages Γ x f g F G (went h k) = stages_take (F _ _ h) (G _ _ k)

-- what a pattern binds in a context
pub names_inside : {p : Pattern} {t : Kind} {R S : Names} (fs : TypesByName) (bs : Bindings) → AddsNames p t R S → R ≡ bound_values fs bs → S ≡ bound_values fs (bindings_inside p t bs)
names_inside fs bs adds_nothing e = e
names_inside fs bs (adds_name {x = x} {t = t}) e = ap (typed_name x t) e
names_inside fs bs (adds_both {p = p} {t = t} A B) e = names_inside fs (bindings_inside p t bs) B (names_inside fs bs A e)

part_fits : (b c : Kind) → Fits (pair_kind b (event_kind c)) → Fits c
part_fits b c h = omega (arith, h)

event_part_fits : (c : Kind) → Fits (event_kind c) → Fits c
event_part_fits c h = omega (arith, h)

-- what is known of a body, and of an edit
bodies_of : (Γ : Context) (p : Pattern) (u : Context → Finds) (c a d b : Kind) → body_output Γ p u c a d ≡ Some b → (d ≡ b) × Binds p c (names_of_values Γ) (names_of_values (inside_pattern p c Γ)) × (u (inside_pattern p c Γ) a ≡ Some b)
bodies_of Γ p u c a d b h =
    let R = names_of_values Γ in
    let under : Names → Option Kind = λ S. found_then (u (inside_pattern p c Γ) a) (λ e. only e d (Some e)) in
    let names = found_is (names_bound p c R) under h in
    let body = found_is (u (inside_pattern p c Γ) a) (λ e. only e d (Some e)) names.2 in
    let same = only_is body.0 d (Some body.0) body.2 in
    let bound = bound_found p c R names.0 names.1 in
    let is : body.0 ≡ b = same_some same.1 in
    (sym same.0 ∙ is, subst (Binds p c R) (names_inside Γ.functions Γ.bindings bound.binds.adds refl) bound.binds, body.1 ∙ ap Some is)

-- what is known of a switch's body
bodies : (Γ : Context) (p : Pattern) (u : Term) (c a d b : Kind) → ((Δ : Context) (a b : Kind) → term_output Δ u a ≡ Some b → Takes Δ u a b)
    → body_output Γ p (λ Δ. term_output Δ u) c a d ≡ Some b → (d ≡ b) × Binds p c (names_of_values Γ) (names_of_values (inside_pattern p c Γ)) × Takes (inside_pattern p c Γ) u a b
bodies Γ p u c a d b G h = let body = bodies_of Γ p (λ Δ. term_output Δ u) c a d b h in (body.0, body.1, G (inside_pattern p c Γ) a b body.2)

switches : (Γ : Context) (w : Observation) (t : Term) (p : Pattern) (u : Term) → ((a b : Kind) → term_output Γ t a ≡ Some b → Takes Γ t a b) → ((Δ : Context) (a b : Kind) → term_output Δ u a ≡ Some b → Takes Δ u a b)
    → (a b : Kind) → switch_output Γ (Basic w) p (term_output Γ t) (λ Δ. term_output Δ u) a ≡ Some b → FormTakes Γ (switching (Basic w) t p u) a b
switches Γ w t p u F G a b h =
    let inner : Kind → Kind → Option Kind = λ d c. body_output Γ p (λ Δ. term_output Δ u) c a d in
    let after : Kind × Kind → Option Kind = λ k. found_then (payload_of k.1) (inner k.0) in
    let both = found_is (found_then (term_output Γ t a) parts_of) after h in
    let given = found_is (term_output Γ t a) parts_of both.1 in
    let event = found_is (payload_of both.0.1) (inner both.0.0) both.2 in
    let body = bodies Γ p u event.0 a both.0.0 b G event.2 in
    let source : term_output Γ t a ≡ Some (pair_kind b (event_kind event.0)) =
    given.1 ∙ ap Some (parts_is given.0 given.2 ∙ ap₂ pair_kind body.0 (payload_is both.0.1 event.1)) in
    switch_takes (F a (pair_kind b (event_kind event.0)) source) body.1 body.2

recurs : (Γ : Context) (w : Observation) (t : Term) (p : Pattern) (u : Term) → ((a b : Kind) → term_output Γ t a ≡ Some b → Takes Γ t a b) → ((Δ : Context) (a b : Kind) → term_output Δ u a ≡ Some b → Takes Δ u a b)
    → (a b : Kind) → switch_output Γ (Recurring w) p (term_output Γ t) (λ Δ. term_output Δ u) a ≡ Some b → FormTakes Γ (switching (Recurring w) t p u) a b
recurs Γ w t p u F G x b h =
    let inner : Kind → Kind → Kind → Option Kind = λ a c d. body_output Γ p (λ Δ. term_output Δ u) c a d in
    let after : Kind → Kind → Option Kind = λ a c. found_then (term_output Γ t a) (inner a c) in
    let first : Kind × Kind → Option Kind = λ k. found_then (payload_of k.1) (after k.0) in
    let parts = found_is (parts_of x) first h in
    let event = found_is (payload_of parts.0.1) (after parts.0.0) parts.2 in
    let source = found_is (term_output Γ t parts.0.0) (inner parts.0.0 event.0) event.2 in
    let body = bodies Γ p u event.0 parts.0.0 source.0 b G source.2 in
    let input : x ≡ pair_kind parts.0.0 (event_kind event.0) = parts_is x parts.1 ∙ ap (pair_kind parts.0.0) (payload_is parts.0.1 event.1) in
    subst (λ a. FormTakes Γ (switching (Recurring w) t p u) a b) (sym input) (recurring_takes (F parts.0.0 b (source.1 ∙ ap Some body.0)) body.1 body.2)

keepings : (Γ : Context) (w : Observation) (t q : Term) (k : Name) (p : Pattern) (u : Term) → ((a b : Kind) → term_output Γ t a ≡ Some b → Takes Γ t a b) → ((a b : Kind) → term_output Γ q a ≡ Some b → Takes Γ q a b)
    → ((Δ : Context) (a b : Kind) → term_output Δ u a ≡ Some b → Takes Δ u a b)
    → (a b : Kind) → continuing_output Γ k p (term_output Γ t) (term_output Γ q) (λ Δ. term_output Δ u) a ≡ Some b → FormTakes Γ (continuing w t q k p u) a b
keepings Γ w t q k p u F H G a b h =
    let inner : Kind → Kind → Option Kind = λ d c. body_output (inside_process k a d Γ) p (λ Δ. term_output Δ u) c a d in
    let after : Kind → Kind → Option Kind = λ d e. found_then (payload_of e) (inner d) in
    let given = found_is (term_output Γ t a) (λ d. found_then (term_output Γ q (pair_kind a d)) (after d)) h in
    let seen = found_is (term_output Γ q (pair_kind a given.0)) (after given.0) given.2 in
    let event = found_is (payload_of seen.0) (inner given.0) seen.2 in
    let body = bodies (inside_process k a given.0 Γ) p u event.0 a given.0 b G event.2 in
    kept given.0 event.0 body.0 given.1 (seen.1 ∙ ap Some (payload_is seen.0 event.1)) body.1 body.2
  where
    kept : (d c : Kind) → d ≡ b → term_output Γ t a ≡ Some d → term_output Γ q (pair_kind a d) ≡ Some (event_kind c)
        → Binds p c (names_of_values (inside_process k a d Γ)) (names_of_values (inside_pattern p c (inside_process k a d Γ))) → Takes (inside_pattern p c (inside_process k a d Γ)) u a b
        → FormTakes Γ (continuing w t q k p u) a b
    kept d c same h i binds body =
        let S : Kind → Type 0 = λ d. term_output Γ t a ≡ Some d in
        let Q : Kind → Type 0 = λ d. term_output Γ q (pair_kind a d) ≡ Some (event_kind c) in
        let B : Kind → Type 0 = λ d. Binds p c (names_of_values (inside_process k a d Γ)) (names_of_values (inside_pattern p c (inside_process k a d Γ))) in
        let T : Kind → Type 0 = λ d. Takes (inside_pattern p c (inside_process k a d Γ)) u a b in
        continuing_takes (F a b (subst S same h)) (H (pair_kind a b) (event_kind c) (subst Q same i)) (subst B same binds) (subst T same body)

-- ## Collections

-- tables of this type are what a collection gives, whose members take inputs of a type
data Collected (Γ : Context) (i : Collection) (a : Kind) : Kind → Type 0 where
  collected_as : {k : KeyKind} {b : Kind} → Collects Γ i k a b → Collected Γ i a (table_kind k b)

used_found : (Γ : Context) (x : Name) (a t : Kind) → used_output (collection_named x Γ.bindings) a ≡ Some t → Collected Γ (used x) a t
used_found Γ x a t h =
    let named = found_is (collection_named x Γ.bindings) (λ c. only a c.1 (Some (table_kind c.0 c.2))) h in
    let c = named.0 in
    let same = only_is a c.1 (Some (table_kind c.0 c.2)) named.2 in
    subst (Collected Γ (used x) a) (same_some same.1) (collected_as (collects_used (subst (λ d. collection_named x Γ.bindings ≡ Some (c.0, d, c.2)) (sym same.0) named.1)))

with_added : {Γ : Context} {i : Collection} (j : Expression) (u : Term) {a s t : Kind} → ((a b : Kind) → term_output Γ u a ≡ Some b → Takes Γ u a b) → Collected Γ i a s
    → with_member (expression_type (names_of_values Γ) j) (term_output Γ u a) s ≡ Some t → Collected Γ (added i j u) a t
with_added {Γ} {i} j u {a} {t = t} G (collected_as {k = k} {b = b} C) h =
    let R = names_of_values Γ in
    let all = table_kind k b in
    let key = found_is (expression_type R j) (λ q. only q (kind_of_keys k) (found_then (term_output Γ u a) (λ d. only d b (Some all)))) h in
    let of_keys = only_is key.0 (kind_of_keys k) (found_then (term_output Γ u a) (λ d. only d b (Some all))) key.2 in
    let output = found_is (term_output Γ u a) (λ d. only d b (Some all)) of_keys.1 in
    let same = only_is output.0 b (Some all) output.2 in
    subst (Collected Γ (added i j u) a) (same_some same.1) (collected_as (collects_added C (found_typed R j (kind_of_keys k) (key.1 ∙ ap Some of_keys.0)) (G a b (output.1 ∙ ap Some same.0))))

with_dropped : {Γ : Context} {i : Collection} (j : Expression) {a s t : Kind} → Collected Γ i a s → keyed_table (expression_type (names_of_values Γ) j) s ≡ Some t → Collected Γ (dropped i j) a t
with_dropped {Γ} {i} j {a} (collected_as {k = k} {b = b} C) h =
    let R = names_of_values Γ in
    let key = found_is (expression_type R j) (λ q. only q (kind_of_keys k) (Some (table_kind k b))) h in
    let same = only_is key.0 (kind_of_keys k) (Some (table_kind k b)) key.2 in
    subst (Collected Γ (dropped i j) a) (same_some same.1) (collected_as (collects_dropped C (found_typed R j (kind_of_keys k) (key.1 ∙ ap Some same.0))))

with_kept_members : {Γ : Context} {i : Collection} (f : Function) {a s t : Kind} → Collected Γ i a s → finds_kept (function_output (names_of_values Γ) f) s ≡ Some t → Collected Γ (Trees.kept i f) a t
with_kept_members {Γ} {i} f {a} (collected_as {k = k} {b = b} C) h =
    let R = names_of_values Γ in
    let truth = found_is (function_output R f (kind_of_keys k)) (λ q. only q bool_kind (Some (table_kind k b))) h in
    let same = only_is truth.0 bool_kind (Some (table_kind k b)) truth.2 in
    subst (Collected Γ (Trees.kept i f) a) (same_some same.1) (collected_as (collects_kept C (output_takes R f (kind_of_keys k) bool_kind (truth.1 ∙ ap Some same.0))))

both_collected : {Γ : Context} {j : Expression} {i h : Collection} {a t : Kind} → HasType (names_of_values Γ) j bool_kind → Collected Γ i a t → Collected Γ h a t → Collected Γ (chosen j i h) a t
both_collected I (collected_as C) (collected_as D) = collected_as (collects_chosen I C D)

chosen_found : (Γ : Context) (j : Expression) (i h : Collection) (a t : Kind) → ((t : Kind) → collection_output Γ i a ≡ Some t → Collected Γ i a t) → ((t : Kind) → collection_output Γ h a ≡ Some t → Collected Γ h a t)
    → one_of_both (expression_type (names_of_values Γ) j) (collection_output Γ i a) (collection_output Γ h a) ≡ Some t → Collected Γ (chosen j i h) a t
chosen_found Γ j i h a t F G q =
    let R = names_of_values Γ in
    let rest = found_then (collection_output Γ i a) (λ t. found_then (collection_output Γ h a) (λ u. only u t (Some t))) in
    let truth = found_is (expression_type R j) (λ b. only b bool_kind rest) q in
    let is = only_is truth.0 bool_kind rest truth.2 in
    let one = found_is (collection_output Γ i a) (λ t. found_then (collection_output Γ h a) (λ u. only u t (Some t))) is.1 in
    let other = found_is (collection_output Γ h a) (λ u. only u one.0 (Some one.0)) one.2 in
    let same = only_is other.0 one.0 (Some one.0) other.2 in
    subst (Collected Γ (chosen j i h) a) (same_some same.1) (both_collected (found_typed R j bool_kind (truth.1 ∙ ap Some is.0)) (F one.0 one.1) (subst (Collected Γ h a) same.0 (G other.0 other.1)))

gathers : {Γ : Context} {i : Collection} {a b : Kind} → Collected Γ i a b → FormTakes Γ (gathered i) a b
gathers (collected_as C) = gathered_takes C

-- members that give way
releasings : {Γ : Context} (w : Observation) {i : Collection} (q : Term) (x : Name) (p : Pattern) (u : Term) {a s b : Kind} → ((a b : Kind) → term_output Γ q a ≡ Some b → Takes Γ q a b) → ((Δ : Context) (a b : Kind) → term_output Δ u a ≡ Some b → Takes Δ u a b)
    → Collected Γ i a s
    → found_then (term_output Γ q (pair_kind a s)) (λ e. found_then (payload_of e) (λ c. found_then (inside_members x a s Γ) (λ Δ. body_output Δ p (λ Δ. term_output Δ u) c a s))) ≡ Some b → FormTakes Γ (releasing w i q x p u) a b
releasings {Γ} w {i} q x p u {a} {b = b} H G (collected_as {k = k} {b = d} C) h =
    let Δ = inside_collection x k a d Γ in
    let s = table_kind k d in
    let after : Kind → Option Kind = λ c. body_output Δ p (λ Δ. term_output Δ u) c a s in
    let seen = found_is (term_output Γ q (pair_kind a s)) (λ e. found_then (payload_of e) after) h in
    let event = found_is (payload_of seen.0) after seen.2 in
    let body = bodies Δ p u event.0 a s b G event.2 in
    subst (FormTakes Γ (releasing w i q x p u) a) body.0
    (releasing_takes C (H (pair_kind a s) (event_kind event.0) (seen.1 ∙ ap Some (payload_is seen.0 event.1))) body.1 (subst (Takes (inside_pattern p event.0 Δ) u a) (sym body.0) body.2))

-- members that are edited
edits_to : {Γ : Context} (w : Observation) {i u : Collection} (x : Name) (p : Pattern) {a c s b : Kind} → ((Δ : Context) (t : Kind) → collection_output Δ u a ≡ Some t → Collected Δ u a t) → Collected Γ i a s
    → found_then (inside_members x a s Γ) (λ Δ. body_output Δ p (λ Δ. collection_output Δ u) c a s) ≡ Some b → FormTakes Γ (editing w i x p u) (pair_kind a (event_kind c)) b
edits_to {Γ} w {i} {u} x p {a} {c} {b = b} G (collected_as {k = k} {b = d} C) h =
    let Δ = inside_collection x k a d Γ in
    let s = table_kind k d in
    let edit = bodies_of Δ p (λ Δ. collection_output Δ u) c a s b h in
    subst (FormTakes Γ (editing w i x p u) (pair_kind a (event_kind c))) edit.0 (edited edit.1 (subst (Collected (inside_pattern p c Δ) u a) (sym edit.0) (G (inside_pattern p c Δ) b edit.2)))
  where
    edited : Binds p c (names_of_values (inside_collection x k a d Γ)) (names_of_values (inside_pattern p c (inside_collection x k a d Γ))) → Collected (inside_pattern p c (inside_collection x k a d Γ)) u a (table_kind k d)
        → FormTakes Γ (editing w i x p u) (pair_kind a (event_kind c)) (table_kind k d)
    edited binds (collected_as D) = editing_takes C binds D

editings : (Γ : Context) (w : Observation) (i u : Collection) (x : Name) (p : Pattern) → ((a t : Kind) → collection_output Γ i a ≡ Some t → Collected Γ i a t) → ((Δ : Context) (a t : Kind) → collection_output Δ u a ≡ Some t → Collected Δ u a t)
    → (y b : Kind) → editing_output Γ x p (collection_output Γ i) (λ Δ. collection_output Δ u) y ≡ Some b → FormTakes Γ (editing w i x p u) y b
editings Γ w i u x p F G y b h =
    let last : Kind → Kind → Kind → Option Kind = λ a c t. found_then (inside_members x a t Γ) (λ Δ. body_output Δ p (λ Δ. collection_output Δ u) c a t) in
    let members : Kind → Kind → Option Kind = λ a c. found_then (collection_output Γ i a) (last a c) in
    let parts = found_is (parts_of y) (λ k. found_then (payload_of k.1) (members k.0)) h in
    let event = found_is (payload_of parts.0.1) (members parts.0.0) parts.2 in
    let table = found_is (collection_output Γ i parts.0.0) (last parts.0.0 event.0) event.2 in
    let input : y ≡ pair_kind parts.0.0 (event_kind event.0) = parts_is y parts.1 ∙ ap (pair_kind parts.0.0) (payload_is parts.0.1 event.1) in
    subst (λ a. FormTakes Γ (editing w i x p u) a b) (sym input) (edits_to w x p (λ Δ t. G Δ parts.0.0 t) (F parts.0.0 table.0 table.1) table.2)

runs : (Γ : Context) (w : Start) (k : Name) (a b : Kind) (o : Option (Kind × Kind)) → process_named k Γ.bindings ≡ o → process_output o a ≡ Some b → FormTakes Γ (reference (started w k)) a b
runs Γ w k a b (Some s) h e =
    let same = only_is a s.0 (Some s.1) e in
    let is : s.1 ≡ b = same_some same.1 in
    started_takes (h ∙ ap Some (ap₂ (λ x y. (x, y)) (sym same.0) is))
runs Γ w k a b None h e = absurd cc

calls : (Γ : Context) (g : Name) (vs : Arguments) (a b : Kind) (o : Option Signature) → signature_named g Γ.signatures ≡ o → ((qs : Bindings) → arguments_fit Γ vs qs ≡ true → ArgumentsFit Γ vs qs)
    → call_output o (arguments_fit Γ vs) a ≡ Some b → FormTakes Γ (reference (call g vs)) a b
calls Γ g vs a b None h F e = absurd cc
calls Γ g vs a b (Some s) h F e = by_test (arguments_fit Γ vs s.parameters) refl e
  where
    by_test : (t : Bool) → arguments_fit Γ vs s.parameters ≡ t → cond t (only a s.input (Some s.output)) None ≡ Some b → FormTakes Γ (reference (call g vs)) a b
    by_test true k e =
        let same = only_is a s.input (Some s.output) e in
        subst₂ (FormTakes Γ (reference (call g vs))) (sym same.0) (same_some same.1) (call_takes h (F s.parameters k))
    by_test false k e = absurd cc

-- what is known of the first argument and of the others
both_fit : (a b : Bool) → a && b ≡ true → (a ≡ true) × (b ≡ true)
both_fit true b h = (refl, h)
both_fit false b h = absurd cc

found_one : (o : Option Kind) (t : Kind) → is_found o t ≡ true → o ≡ Some t
found_one (Some u) t h = ap Some (same_is u t h)
found_one None t h = absurd cc

value_found : (Γ : Context) (i : Expression) (vs : Arguments) (x : Name) (k : NameKind) (qs : Bindings) → value_is_argument (expression_type (names_of_values Γ) i) k ≡ true → ArgumentsFit Γ vs qs → ArgumentsFit Γ (value_argument i vs) ((x, k) ∷ qs)
value_found Γ i vs x (value t) qs h F = value_fits (found_typed (names_of_values Γ) i t (found_one (expression_type (names_of_values Γ) i) t h)) F
value_found Γ i vs x (process a b) qs h F = absurd cc
value_found Γ i vs x (collection k a b) qs h F = absurd cc

process_found : (Γ : Context) (t : Term) (vs : Arguments) (x : Name) (k : NameKind) (qs : Bindings) → ((a b : Kind) → term_output Γ t a ≡ Some b → Takes Γ t a b) → process_is_argument (term_output Γ t) k ≡ true → ArgumentsFit Γ vs qs → ArgumentsFit Γ (process_argument t vs) ((x, k) ∷ qs)
process_found Γ t vs x (value u) qs G h F = absurd cc
process_found Γ t vs x (process a b) qs G h F = process_fits (G a b (found_one (term_output Γ t a) b h)) F
process_found Γ t vs x (collection k a b) qs G h F = absurd cc

fits_collection : {Γ : Context} {i : Collection} {vs : Arguments} {x : Name} {k : KeyKind} {a b : Kind} {qs : Bindings} → Collected Γ i a (table_kind k b) → ArgumentsFit Γ vs qs → ArgumentsFit Γ (collection_argument i vs) ((x, collection k a b) ∷ qs)
fits_collection (collected_as C) F = collection_fits C F

collection_found_fit : (Γ : Context) (i : Collection) (vs : Arguments) (x : Name) (k : NameKind) (qs : Bindings) → ((a t : Kind) → collection_output Γ i a ≡ Some t → Collected Γ i a t) → collection_is_argument (collection_output Γ i) k ≡ true → ArgumentsFit Γ vs qs → ArgumentsFit Γ (collection_argument i vs) ((x, k) ∷ qs)
collection_found_fit Γ i vs x (value u) qs G h F = absurd cc
collection_found_fit Γ i vs x (process a b) qs G h F = absurd cc
collection_found_fit Γ i vs x (collection k a b) qs G h F = fits_collection (G a (table_kind k b) (found_one (collection_output Γ i a) (table_kind k b) h)) F

closed_of : {Γ : Context} {t : Term} {vs : Arguments} {qs : Bindings} → ArgumentsFit Γ (process_argument t vs) qs → ArgumentsFit Γ (closed_argument t vs) qs
closed_of (process_fits T F) = closed_fits T F

mutual
  form_found : (Γ : Context) (t : Term) → (a b : Kind) → form_output Γ t a ≡ Some b → FormTakes Γ t a b
  form_found Γ (primitive p) a b h = primitive_takes (primitive_found p a b h)
  form_found Γ (reference r) a b h = reference_found Γ r a b h
  form_found Γ (joined j f g) a b h = joins Γ j f g (within Γ f (form_found Γ f)) (within Γ g (form_found Γ g)) (join_found j (term_output Γ f) (term_output Γ g) a b h)
  form_found Γ (sided d t) a b h = sides Γ d t (within Γ t (form_found Γ t)) (side_found d (term_output Γ t) a b h)
  form_found Γ (headed LoopPre e t) a b h = looped Γ e t (within Γ t (form_found Γ t)) a b (expression_type (names_of_values Γ) e) refl h
  form_found Γ (headed Initialized e t) a b h = initialized Γ e t (within Γ t (form_found Γ t)) a b (expression_type (names_of_values Γ) e) refl h
  form_found Γ (headed Replaced e t) a b h = replaced Γ e t (within Γ t (form_found Γ t)) a b (expression_type (names_of_values Γ) e) refl h
  form_found Γ (headed Followed e t) a b h = followed Γ e t (within Γ t (form_found Γ t)) a b (expression_type (names_of_values Γ) e) refl h
  form_found Γ (transformed f t) a b h = changed_first Γ f t (within Γ t (form_found Γ t)) a b (function_output (names_of_values Γ) f a) refl h
  form_found Γ (switching (Basic w) t p u) a b h = switches Γ w t p u (within Γ t (form_found Γ t)) (λ Δ. within Δ u (form_found Δ u)) a b h
  form_found Γ (switching (Recurring w) t p u) a b h = recurs Γ w t p u (within Γ t (form_found Γ t)) (λ Δ. within Δ u (form_found Δ u)) a b h
  form_found Γ (continuing w t q k p u) a b h = keepings Γ w t q k p u (within Γ t (form_found Γ t)) (within Γ q (form_found Γ q)) (λ Δ. within Δ u (form_found Δ u)) a b h
  form_found Γ (gathered i) a b h = gathers (collection_found Γ i a b h)
  form_found Γ (releasing w i q k p u) a b h =
      let given = found_is (collection_output Γ i a) (λ t. found_then (term_output Γ q (pair_kind a t)) (λ e. found_then (payload_of e) (λ c. found_then (inside_members k a t Γ) (λ Δ. body_output Δ p (λ Δ. term_output Δ u) c a t)))) h in
      releasings w q k p u (within Γ q (form_found Γ q)) (λ Δ. within Δ u (form_found Δ u)) (collection_found Γ i a given.0 given.1) given.2
  form_found Γ (editing w i k p u) a b h = editings Γ w i u k p (collection_found Γ i) (λ Δ. collection_found Δ u) a b h
  form_found Γ (staged x f g) a b h = stages Γ x f g (within Γ f (form_found Γ f)) (within Γ g (form_found Γ g)) (found_went (term_output Γ f) (term_output Γ g) a b h)

  reference_found : (Γ : Context) (r : Reference) → (a b : Kind) → reference_output Γ r a ≡ Some b → FormTakes Γ (reference r) a b
  reference_found Γ (started w k) a b h = runs Γ w k a b (process_named k Γ.bindings) refl h
  reference_found Γ (call g vs) a b h = calls Γ g vs a b (signature_named g Γ.signatures) refl (arguments_found Γ vs) h

  collection_found : (Γ : Context) (i : Collection) → (a t : Kind) → collection_output Γ i a ≡ Some t → Collected Γ i a t
  collection_found Γ (without_members k b) a t h = subst (Collected Γ (without_members k b) a) (same_some h) (collected_as collects_none)
  collection_found Γ (used x) a t h = used_found Γ x a t h
  collection_found Γ (added i j u) a t h =
      let given = found_is (collection_output Γ i a) (with_member (expression_type (names_of_values Γ) j) (term_output Γ u a)) h in
      with_added j u (within Γ u (form_found Γ u)) (collection_found Γ i a given.0 given.1) given.2
  collection_found Γ (dropped i j) a t h =
      let given = found_is (collection_output Γ i a) (keyed_table (expression_type (names_of_values Γ) j)) h in
      with_dropped j (collection_found Γ i a given.0 given.1) given.2
  collection_found Γ (Trees.kept i f) a t h =
      let given = found_is (collection_output Γ i a) (finds_kept (function_output (names_of_values Γ) f)) h in
      with_kept_members f (collection_found Γ i a given.0 given.1) given.2
  collection_found Γ (chosen j i k) a t h = chosen_found Γ j i k a t (collection_found Γ i a) (collection_found Γ k a) h

  arguments_found : (Γ : Context) (vs : Arguments) → (qs : Bindings) → arguments_fit Γ vs qs ≡ true → ArgumentsFit Γ vs qs
  arguments_found Γ no_arguments [] h = no_argument_fits
  arguments_found Γ no_arguments (q ∷ qs) h = absurd cc
  arguments_found Γ (value_argument i vs) [] h = absurd cc
  arguments_found Γ (value_argument i vs) ((x, k) ∷ qs) h =
      let both = both_fit (value_is_argument (expression_type (names_of_values Γ) i) k) (arguments_fit Γ vs qs) h in
      value_found Γ i vs x k qs both.0 (arguments_found Γ vs qs both.1)
  arguments_found Γ (process_argument t vs) [] h = absurd cc
  arguments_found Γ (process_argument t vs) ((x, k) ∷ qs) h =
      let both = both_fit (process_is_argument (term_output Γ t) k) (arguments_fit Γ vs qs) h in
      process_found Γ t vs x k qs (within Γ t (form_found Γ t)) both.0 (arguments_found Γ vs qs both.1)
  arguments_found Γ (collection_argument i vs) [] h = absurd cc
  arguments_found Γ (collection_argument i vs) ((x, k) ∷ qs) h =
      let both = both_fit (collection_is_argument (collection_output Γ i) k) (arguments_fit Γ vs qs) h in
      collection_found_fit Γ i vs x k qs (collection_found Γ i) both.0 (arguments_found Γ vs qs both.1)
  arguments_found Γ (closed_argument t vs) [] h = absurd cc
  arguments_found Γ (closed_argument t vs) ((x, k) ∷ qs) h =
      let both = both_fit (process_is_argument (term_output Γ t) k) (arguments_fit Γ vs qs) h in
      closed_of (process_found Γ t vs x k qs (within Γ t (form_found Γ t)) both.0 (arguments_found Γ vs qs both.1))

pub output_found : {Γ : Context} (t : Term) (a b : Kind) → term_output Γ t a ≡ Some b → Takes Γ t a b
output_found {Γ} t = within Γ t (form_found Γ t)

pub output_fits : {Γ : Context} {t : Term} {a b : Kind} → Takes Γ t a b → Fits b
output_fits (takes f g h) = g

-- what is found of a body, and of an edit
body_found : (Γ : Context) {p : Pattern} (u : Context → Finds) (a : Kind) {b c : Kind} → Fits c → Binds p c (names_of_values Γ) (names_of_values (inside_pattern p c Γ)) → u (inside_pattern p c Γ) a ≡ Some b
    → body_output Γ p u c a b ≡ Some b
body_found Γ {p} u a {b} {c} f B g =
    let under : Names → Option Kind = λ S. found_then (u (inside_pattern p c Γ) a) (λ d. only d b (Some d)) in
    ap (λ o. found_then o under) (found_bound f B)
    ∙ ap (λ o. found_then o (λ d. only d b (Some d))) g
    ∙ ap (λ s. cond s (Some b) None) (is_same b)

key_with : {key : Option Kind} {k : KeyKind} {b : Kind} → key ≡ Some (kind_of_keys k) → keyed_table key (table_kind k b) ≡ Some (table_kind k b)
key_with {k = k} {b = b} e = ap (λ q. keyed_table q (table_kind k b)) e ∙ ap (λ s. cond s (Some (table_kind k b)) None) (is_same (kind_of_keys k))

member_with : {key output : Option Kind} {k : KeyKind} {b : Kind} → key ≡ Some (kind_of_keys k) → output ≡ Some b → with_member key output (table_kind k b) ≡ Some (table_kind k b)
member_with {key} {output} {k} {b} e f =
    ap₂ (λ q o. with_member q o (table_kind k b)) e f
    ∙ ap (λ s. cond s (found_then (Some b) (λ d. only d b (Some (table_kind k b)))) None) (is_same (kind_of_keys k))
    ∙ ap (λ s. cond s (Some (table_kind k b)) None) (is_same b)

both_with : {truth one other : Option Kind} {t : Kind} → truth ≡ Some bool_kind → one ≡ Some t → other ≡ Some t → one_of_both truth one other ≡ Some t
both_with {t = t} e f g = rw (e, f, g) (ap (λ s. cond s (Some t) None) (is_same t))

mutual
  pub takes_found : {Γ : Context} {t : Term} {a b : Kind} → Takes Γ t a b → term_output Γ t a ≡ Some b
  takes_found {Γ} {t} {a} {b} (takes p q F) = inside_fitting (form_output Γ t) a b p q (form_is p F)

  form_is : {Γ : Context} {t : Term} {a b : Kind} → Fits a → FormTakes Γ t a b → form_output Γ t a ≡ Some b
  form_is f (primitive_takes P) = primitive_is P
  form_is f (started_takes {a = a} {b = b} h) = ap (λ o. process_output o a) h ∙ ap (λ s. cond s (Some b) None) (is_same a)
  form_is {Γ} f (call_takes {vs = vs} {s = s} h F) =
      ap (λ o. call_output o (arguments_fit Γ vs) s.input) h ∙ ap (λ t. cond t (only s.input s.input (Some s.output)) None) (arguments_are F) ∙ ap (λ t. cond t (Some s.output) None) (is_same s.input)
  form_is f (sequence_takes F G) = rw (takes_found F) (takes_found G)
  form_is f (parallel_takes F G) = rw (takes_found F, takes_found G) refl
  form_is f (fan_takes F G) = rw (takes_found F, takes_found G) refl
  form_is f (first_takes F) = rw (takes_found F) refl
  form_is f (second_takes F) = rw (takes_found F) refl
  form_is {Γ} f (loop_takes {t = t} {a = a} {b = b} {c = c} E F) =
      ap (λ o. heading_output LoopPre o (term_output Γ t) a) (typed_found E) ∙ ap (λ o. found_then o (first_beside c)) (takes_found F) ∙ ap (λ s. cond s (Some b) None) (is_same c)
  form_is {Γ} f (initialized_takes {t = t} {a = a} {b = b} E F) =
      ap (λ o. heading_output Initialized o (term_output Γ t) a) (typed_found E) ∙ ap (λ o. found_then o (λ d. only d b (Some d))) (takes_found F) ∙ ap (λ s. cond s (Some b) None) (is_same b)
  form_is {Γ} f (replaced_takes {t = t} {a = a} E F) =
      ap (λ o. heading_output Replaced o (term_output Γ t) a) (typed_found E) ∙ ap (λ s. cond s (term_output Γ t a) None) (is_same a) ∙ takes_found F
  form_is {Γ} f (followed_takes {t = t} {a = a} {b = b} E F) =
      ap (λ o. heading_output Followed o (term_output Γ t) a) (typed_found E) ∙ ap (λ o. found_then o (λ d. only d b (Some d))) (takes_found F) ∙ ap (λ s. cond s (Some b) None) (is_same b)
  form_is {Γ} f (transformed_takes {t = t} {a = a} G F) =
      ap (λ o. transformed_output o (term_output Γ t) a) (takes_output G) ∙ ap (λ s. cond s (term_output Γ t a) None) (is_same a) ∙ takes_found F
  form_is {Γ} f (switch_takes {u = u} {p = p} {a = a} {b = b} {c = c} F B G) =
      ap (λ o. found_then (found_then o parts_of) (λ k. found_then (payload_of k.1) (λ c. body_output Γ p (λ Δ. term_output Δ u) c a k.0))) (takes_found F)
      ∙ body_found Γ (λ Δ. term_output Δ u) a (part_fits b c (output_fits F)) B (takes_found G)
  form_is {Γ} f (recurring_takes {u = u} {p = p} {a = a} {b = b} {c = c} F B G) =
      ap (λ o. found_then o (λ d. body_output Γ p (λ Δ. term_output Δ u) c a d)) (takes_found F)
      ∙ body_found Γ (λ Δ. term_output Δ u) a (part_fits a c f) B (takes_found G)
  form_is {Γ} f (continuing_takes {t = t} {q = q} {u = u} {k = k} {p = p} {a = a} {b = b} {c = c} F H B G) =
      ap (λ o. found_then o (λ d. found_then (term_output Γ q (pair_kind a d)) (λ e. found_then (payload_of e) (λ c. body_output (inside_process k a d Γ) p (λ Δ. term_output Δ u) c a d)))) (takes_found F)
      ∙ ap (λ o. found_then o (λ e. found_then (payload_of e) (λ c. body_output (inside_process k a b Γ) p (λ Δ. term_output Δ u) c a b))) (takes_found H)
      ∙ body_found (inside_process k a b Γ) (λ Δ. term_output Δ u) a (event_part_fits c (output_fits H)) B (takes_found G)
  form_is f (gathered_takes C) = collects_found C
  form_is {Γ} f (releasing_takes {i = i} {q = q} {u = u} {x = x} {p = p} {k = k} {a = a} {b = b} {c = c} C H B G) =
      ap (λ o. found_then o (λ t. found_then (term_output Γ q (pair_kind a t)) (λ e. found_then (payload_of e) (λ c. found_then (inside_members x a t Γ) (λ Δ. body_output Δ p (λ Δ. term_output Δ u) c a t))))) (collects_found C)
      ∙ ap (λ o. found_then o (λ e. found_then (payload_of e) (λ c. body_output (inside_collection x k a b Γ) p (λ Δ. term_output Δ u) c a (table_kind k b)))) (takes_found H)
      ∙ body_found (inside_collection x k a b Γ) (λ Δ. term_output Δ u) a (event_part_fits c (output_fits H)) B (takes_found G)
  form_is {Γ} f (editing_takes {i = i} {u = u} {x = x} {p = p} {k = k} {a = a} {b = b} {c = c} C B D) =
      ap (λ o. found_then o (λ t. found_then (inside_members x a t Γ) (λ Δ. body_output Δ p (λ Δ. collection_output Δ u) c a t))) (collects_found C)
      ∙ body_found (inside_collection x k a b Γ) (λ Δ. collection_output Δ u) a (part_fits a c f) B (collects_found D)
  form_is f (stages_take F G) = rw (takes_found F) (takes_found G)

  collects_found : {Γ : Context} {i : Collection} {k : KeyKind} {a b : Kind} → Collects Γ i k a b → collection_output Γ i a ≡ Some (table_kind k b)
  collects_found collects_none = refl
  collects_found (collects_used {k = k} {a = a} {b = b} h) = ap (λ o. used_output o a) h ∙ ap (λ s. cond s (Some (table_kind k b)) None) (is_same a)
  collects_found {Γ} (collects_added {j = j} {t = t} {k = k} {a = a} {b = b} C I T) =
      ap (λ o. found_then o (with_member (expression_type (names_of_values Γ) j) (term_output Γ t a))) (collects_found C) ∙ member_with (typed_found I) (takes_found T)
  collects_found {Γ} (collects_dropped {j = j} {k = k} {b = b} C I) = ap (λ o. found_then o (keyed_table (expression_type (names_of_values Γ) j))) (collects_found C) ∙ key_with (typed_found I)
  collects_found {Γ} (collects_kept {f = f} {k = k} {b = b} C F) = ap (λ o. found_then o (finds_kept (function_output (names_of_values Γ) f))) (collects_found C) ∙ ap (λ o. found_then o (λ d. only d bool_kind (Some (table_kind k b)))) (takes_output F)
  collects_found {Γ} (collects_chosen {j = j} {i = i} {h = h} {k = k} {a = a} {b = b} I C D) = both_with (typed_found I) (collects_found C) (collects_found D)

  arguments_are : {Γ : Context} {vs : Arguments} {qs : Bindings} → ArgumentsFit Γ vs qs → arguments_fit Γ vs qs ≡ true
  arguments_are no_argument_fits = refl
  arguments_are (value_fits {t = t} E F) = ap₂ (λ a b. a && b) (ap (λ o. is_found o t) (typed_found E) ∙ is_same t) (arguments_are F)
  arguments_are (process_fits {b = b} T F) = ap₂ (λ a b. a && b) (ap (λ o. is_found o b) (takes_found T) ∙ is_same b) (arguments_are F)
  arguments_are (collection_fits {k = k} {b = b} C F) = ap₂ (λ a b. a && b) (ap (λ o. is_found o (table_kind k b)) (collects_found C) ∙ is_same (table_kind k b)) (arguments_are F)
  arguments_are (closed_fits {b = b} T F) = ap₂ (λ a b. a && b) (ap (λ o. is_found o b) (takes_found T) ∙ is_same b) (arguments_are F)

-- ## What follows for terms that take inputs

pub takes_one : {Γ : Context} {t : Term} {a b c : Kind} → Takes Γ t a b → Takes Γ t a c → b ≡ c
takes_one h k = let f = takes_found h in let g = takes_found k in cc

pub input_fits : {Γ : Context} {t : Term} {a b : Kind} → Takes Γ t a b → Fits a
input_fits (takes f g h) = f

pub form_of : {Γ : Context} {t : Term} {a b : Kind} → Takes Γ t a b → FormTakes Γ t a b
form_of (takes f g h) = h
