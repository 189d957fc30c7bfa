-- What differs is refused there.
use Rattle.std.proofs.Common.{◌≡◌, ◌≢◌, Bool, true, false, ◌&&◌, List, [], ◌∷◌, length, Option, None, Some, Result, Ok, Err, refl, sym, ap, ◌∙◌, arith}
use Rattle.std.specs.Prelude.{IsTrue}
use mathlib.Core.Path.{ap₂}
use Rattle.sf_value.specs.Values.{Name, KeyKind, Kind, unit_kind, bool_kind, int_kind, text_kind, pair_kind, event_kind, table_kind}
use Rattle.sf_refusal.specs.declared.spot.Spot.{Spot}
use Rattle.sf_refusal.specs.declared.rule.Rule.TheVariants.{UnknownName, Arity, Mismatch}
use Rattle.sf_refusal.specs.declared.refusal.Breach.{Breach}
use Rattle.sf_refusal.specs.Refusals.{breach_of}
use Rattle.sf_func.specs.Registries.{TypesByName}
use Rattle.sf_operator.specs.Kinds.{parts_of, payload_of, kind_of_keys}
use Rattle.sf_operator.proofs.SameKinds.{is_same}
use Rattle.sf_expr.specs.declared.exprs.Exprs.{Exprs}
use Rattle.sf_expr.specs.declared.exprs.PatternId.{PatternId}
use Rattle.sf_expr.specs.Arena.{stored_pattern}
use Rattle.sf_expr.specs.Judging.{matching_at, judged_fitting}
use Rattle.sf_expr.proofs.Judged.{fits_at, typed_judged, takes_judged, binds_binding}
use Rattle.sf_expr.proofs.Inferred.{test_fits}
use Rattle.sf_term.specs.declared.form.Bare.{Bare}
use Rattle.sf_term.specs.declared.form.Bare.TheVariants as bare
use Rattle.sf_term.specs.declared.form.Side.TheVariants.{First, Second}
use Rattle.sf_term.specs.declared.form.Heading.TheVariants.{LoopPre, Initialized, Replaced, Followed}
use Rattle.sf_term.specs.declared.node.TermId.{TermId}
use Rattle.sf_term.specs.declared.node.Primitive.{Primitive}
use Rattle.sf_term.specs.declared.node.Argument.{Argument}
use Rattle.sf_term.specs.declared.node.Argument.TheVariants as arguments
use Rattle.sf_term.specs.declared.node.Node.{Node}
use Rattle.sf_term.specs.declared.collection.CollectionId.{CollectionId}
use Rattle.sf_term.specs.declared.collection.CollExpr.{CollExpr}
use Rattle.sf_term.specs.declared.program.Program.{Program}
use Rattle.sf_term.specs.Headers.{Header}
use Rattle.sf_term.specs.Arena.{term_spot_at, program_expressions, arguments_of, collection_node}
use Rattle.sf_mean.specs.Contexts.{NameKind, value, process, collection, Bindings, Signature, Context, names_of_values, inside_pattern}
use Rattle.sf_mean.specs.Typing.{bare_kind, value_kind, takes_input, selected_kind, accumulated_argument, accumulated_kind, ArgumentsFit}
use Rattle.sf_mean.proofs.Inferred.{input_fits}
use Rattle.sf_differ.specs.declared.difference.Difference.{Difference}
use Rattle.sf_differ.specs.Wanting.{IsMade}
use Rattle.sf_differ.proofs.Placed.{made_by}
use Rattle.sf_differ.proofs.Refused.{none_stands, expression_refused, function_refused}
use Rattle.sf_check.specs.Standing.{program_pattern, continuing_inside, members_inside, BindsInside}
use Rattle.sf_check.specs.Judging.{asked, found_or_broken, judged_beside, judged_process, judged_collection, judged_fed, bare_judged, primitive_judged, body_judged, edit_judged, members_judged, argument_judged, arguments_judged, call_judged, node_judged, term_judged}
use Rattle.sf_check.specs.Breaking.{after_source, beside_input, ArgumentKeeps, value_keeps, process_keeps, collection_keeps, ArgumentsLeft, all_left, after_one, Reaches, call_argument, sequence_left, sequence_right, parallel_left, parallel_right, fan_left, fan_right, first_part, second_part, head_part, transformed_part, switch_source, recurring_first, switch_body, continuing_source, continuing_observer, continuing_body, their_observer, releasing_body, ReachesMembers, argument_members, gathered_members, releasing_members, editing_members, their_edit, TemplateBreaks}
use Rattle.sf_check.specs.Refusing.{RefusesNetwork, type_refused}
use Rattle.sf_check.specs.Answering.{ArgumentFits}
use Rattle.sf_check.specs.Differing as differing
use Rattle.sf_check.specs.Differing.{PrimitiveDiffers, BodyDiffers, EditDiffers, ArgumentDiffers, ArgumentsDiffer, CallDiffers, FormDiffers, TermDiffers, CollectionDiffers, TemplateDiffers, NetworkDiffers}
use Rattle.sf_check.proofs.Types.{argument_fits}
use Rattle.sf_check.proofs.Arguments.{left_length}
use Rattle.sf_check.proofs.Calls.{first_fits, rest_fits, and_false}
use Rattle.sf_check.proofs.Judging.{go, stop, holds, fails, term_form}
use Rattle.sf_check.proofs.Judged.{output_judged, members_are_judged, many_as, fitting_as, told_apart, template_within, header_apart}
use Rattle.sf_check.proofs.Unlike.{other_than}

differs : {b : Bool} {q s : Spot} → q ≡ s → b ≡ false → asked Mismatch s b ≡ Err (breach_of Mismatch q)
differs {s = s} at other = fails Mismatch s other ∙ ap (λ s. Err (breach_of Mismatch s)) (sym at)

-- ## Types without parts

module _ {s q : Spot} (at : q ≡ s) where
  wrong : {A : Type 0} → ◌≡◌ {A = Result A Breach} (Err (breach_of Mismatch s)) (Err (breach_of Mismatch q))
  wrong = ap (λ s. Err (breach_of Mismatch s)) (sym at)

  no_parts : (a : Kind) → ((b c : Kind) → a ≢ pair_kind b c) → matching_at s (parts_of a) ≡ Err (breach_of Mismatch q)
  no_parts (pair_kind b c) none = absurd (none b c refl)
  no_parts unit_kind none = wrong
  no_parts bool_kind none = wrong
  no_parts int_kind none = wrong
  no_parts text_kind none = wrong
  no_parts (event_kind t) none = wrong
  no_parts (table_kind k t) none = wrong

  no_payload : (a : Kind) → ((c : Kind) → a ≢ event_kind c) → matching_at s (payload_of a) ≡ Err (breach_of Mismatch q)
  no_payload (event_kind c) none = absurd (none c refl)
  no_payload unit_kind none = wrong
  no_payload bool_kind none = wrong
  no_payload int_kind none = wrong
  no_payload text_kind none = wrong
  no_payload (pair_kind b c) none = wrong
  no_payload (table_kind k t) none = wrong

  none_beside : (a : Kind) → ((b c : Kind) → a ≢ pair_kind b (event_kind c)) → judged_beside s a ≡ Err (breach_of Mismatch q)
  none_beside (pair_kind b w) none = stop _ (no_payload w (λ c e. none b c (ap (pair_kind b) e)))
  none_beside unit_kind none = wrong
  none_beside bool_kind none = wrong
  none_beside int_kind none = wrong
  none_beside text_kind none = wrong
  none_beside (event_kind t) none = wrong
  none_beside (table_kind k t) none = wrong

  none_fed : (a c : Kind) → ((t : Kind) → a ≢ pair_kind t c) → judged_fed s a c ≡ Err (breach_of Mismatch q)
  none_fed (pair_kind t w) c none = stop _ (differs at (told_apart w c (λ e. none t (ap (pair_kind t) e))))
  none_fed unit_kind c none = wrong
  none_fed bool_kind c none = wrong
  none_fed int_kind c none = wrong
  none_fed text_kind c none = wrong
  none_fed (event_kind t) c none = wrong
  none_fed (table_kind k t) c none = wrong

  kind_apart : (o : Option Kind) → (IsMade o → ⊥) → judged_fitting s o ≡ Err (breach_of Mismatch q)
  kind_apart None none = wrong
  kind_apart (Some t) none = absurd (none (made_by refl))

-- ## Primitives

not_true : (b : Bool) → (IsTrue b → ⊥) → b ≡ false
not_true true h = absurd (h refl)
not_true false h = refl

bare_apart : (k : Bare) (a : Kind) (s : Spot) {r : Breach} → k ≢ bare.Pre → judged_fitting s (bare_kind k a) ≡ Err r → bare_judged s k a ≡ Err r
bare_apart bare.Identity a s other h = h
bare_apart bare.LocalTime a s other h = h
bare_apart bare.Integral a s other h = h
bare_apart bare.Edge a s other h = h
bare_apart bare.NotYet a s other h = h
bare_apart bare.Once a s other h = h
bare_apart bare.Count a s other h = h
bare_apart bare.Pre a s other h = absurd (other refl)

module _ {x : Exprs} {Γ : Context} {s : Spot} where
  primitive_apart : {q : Primitive} {a : Kind} {d : Difference} → PrimitiveDiffers x Γ s q a d → primitive_judged x s q Γ a ≡ Err (breach_of Mismatch d.spot)
  primitive_apart {a = a} (differing.bare_differs {k = k} other h) = bare_apart k a s other (kind_apart h.at (bare_kind k a) (λ m. none_stands h m))
  primitive_apart (differing.value_differs_within h) = stop _ (expression_refused x h).first
  primitive_apart {a = a} (differing.value_differs {k = k} {t = t} typed h) = go _ (typed_judged x _ _ t typed) (kind_apart h.at (value_kind k t a) (λ m. none_stands h (a, m)))
  primitive_apart {a = a} (differing.input_differs {k = k} {t = t} typed h) = go _ (typed_judged x _ _ t typed) (kind_apart h.at (value_kind k t a) (λ m. none_stands h m))
  primitive_apart (differing.timed_differs_within h) = stop _ (expression_refused x h).first
  primitive_apart {a = a} (differing.timed_differs {k = k} {t = t} typed h) = go _ (typed_judged x _ _ t typed) (stop _ (differs h.at (not_true (takes_input k t a) (λ m. none_stands h m))))
  primitive_apart {a = a} (differing.selected_differs h) = stop _ (kind_apart h.at (selected_kind a) (λ m. none_stands h m))
  primitive_apart (differing.start_differs_within h) = stop _ (expression_refused x h).first
  primitive_apart {a = a} (differing.accumulated_differs {k = k} {t = t} typed h) = go _ (typed_judged x _ _ t typed) (stop _ (kind_apart h.at (accumulated_argument k t a) (λ m. none_stands h m)))
  primitive_apart (differing.accumulator_differs {t = t} typed e f h) = go _ (typed_judged x _ _ t typed) (go _ (fitting_as s e f) (stop _ (function_refused x h).first))
  primitive_apart {a = a} (differing.start_differs {k = k} {f = f} {t = t} {c = c} {u = u} typed e F h) =
      go _ (typed_judged x _ _ t typed) (go _ (fitting_as s e (argument_fits F)) (go _ (takes_judged x _ f s c u F) (kind_apart h.at (accumulated_kind k t a u) (λ m. none_stands h (u, m)))))
  primitive_apart {a = a} (differing.made_differs {k = k} {f = f} {t = t} {c = c} {u = u} typed e F h) =
      go _ (typed_judged x _ _ t typed) (go _ (fitting_as s e (argument_fits F)) (go _ (takes_judged x _ f s c u F) (kind_apart h.at (accumulated_kind k t a u) (λ m. none_stands h m))))
  primitive_apart (differing.function_differs h) = (function_refused x h).first

-- ## Parts

module _ (p : Program) where
  body_apart : {Δ : Context} {s : Spot} {q : PatternId} {u : TermId} {a b c : Kind} {d : Difference} → BodyDiffers p Δ s q u a b c d → body_judged p s q (term_judged p u) a b c Δ ≡ Err (breach_of Mismatch d.spot)
  body_apart {Δ} (differing.body_pattern h) = stop _ (h.refused.first (names_of_values Δ))
  body_apart {s = s} {q = q} {u = u} (differing.body_output binds T h) = go _ (binds_binding s (stored_pattern (program_expressions p) q) binds) (go _ (output_judged p u T) (stop _ (differs h.at (told_apart _ _ (other_than h)))))

  edit_apart : {Δ : Context} {s : Spot} {q : PatternId} {u : CollectionId} {k : KeyKind} {a b c : Kind} {d : Difference}
      → EditDiffers p Δ s q u k a b c d → edit_judged p s q (members_judged p (term_judged p) (collection_node p u)) a (k, b) c Δ ≡ Err (breach_of Mismatch d.spot)
  edit_apart {Δ} (differing.edit_pattern h) = stop _ (h.refused.first (names_of_values Δ))
  edit_apart {s = s} {q = q} {u = u} (differing.edit_tables binds C h) = go _ (binds_binding s (stored_pattern (program_expressions p) q) binds) (go _ (members_are_judged p (collection_node p u) C) (stop _ (differs h.at (told_apart _ _ (other_than h)))))

  body_within : (Δ : Context) (s : Spot) (q : PatternId) (u : TermId) (a b c : Kind) {e : Breach} → BindsInside (program_pattern p q) c Δ → term_judged p u (inside_pattern (program_pattern p q) c Δ) a ≡ Err e → body_judged p s q (term_judged p u) a b c Δ ≡ Err e
  body_within Δ s q u a b c binds h = go _ (binds_binding s (stored_pattern (program_expressions p) q) binds) (stop _ h)

  -- ## Arguments

  module _ (Γ : Context) (s : Spot) where
    keeps_judged : {v : Argument} {k : NameKind} → ArgumentKeeps p Γ v k → (b : Bool) × (argument_judged p (term_judged p) s Γ v k ≡ Ok b)
    keeps_judged (value_keeps {e = e} typed) = (_, go _ (typed_judged (program_expressions p) _ e _ typed) refl)
    keeps_judged (process_keeps {t = t} T) = (_, go _ (output_judged p t T) refl)
    keeps_judged (collection_keeps {i = i} C) = (_, go _ (members_are_judged p (collection_node p i) C) refl)

    left_judged : {vs ws : List Argument} {qs rs : Bindings} {v : Argument} {x : Name} {k : NameKind} {e : Breach}
        → ArgumentsLeft p Γ vs qs (v ∷ ws) ((x, k) ∷ rs) → argument_judged p (term_judged p) s Γ v k ≡ Err e → arguments_judged p (term_judged p) s Γ vs qs ≡ Err e
    left_judged (all_left many) h = stop _ h
    left_judged (after_one keeps left) h = go _ (keeps_judged keeps).1 (stop _ (left_judged left h))

    all_judged : {vs : List Argument} {qs : Bindings} → ArgumentsLeft p Γ vs qs [] [] → (b : Bool) × (arguments_judged p (term_judged p) s Γ vs qs ≡ Ok b)
    all_judged (all_left many) = (true, refl)
    all_judged (after_one keeps left) = (_, go _ (keeps_judged keeps).1 (go _ (all_judged left).1 refl))

    fits_judged : (v : Argument) (k : NameKind) → ArgumentFits p Γ v k → argument_judged p (term_judged p) s Γ v k ≡ Ok true
    fits_judged (arguments.Value e) (value u) h = go _ (typed_judged (program_expressions p) _ e u h) (ap Ok (is_same u))
    fits_judged (arguments.Value e) (process a b) h = absurd h
    fits_judged (arguments.Value e) (collection k a b) h = absurd h
    fits_judged (arguments.Process t) (value u) h = absurd h
    fits_judged (arguments.Process t) (process a b) h = go _ (output_judged p t h) (ap Ok (ap₂ (λ c d. c && d) (test_fits a (input_fits h)) (is_same b)))
    fits_judged (arguments.Process t) (collection k a b) h = absurd h
    fits_judged (arguments.Collection i) (value u) h = absurd h
    fits_judged (arguments.Collection i) (process a b) h = absurd h
    fits_judged (arguments.Collection i) (collection k a b) h = go _ (members_are_judged p (collection_node p i) h) (ap Ok (is_same (table_kind k b)))

    fit_judged : (vs : List Argument) (qs : Bindings) → ArgumentsFit Γ (arguments_of p vs) qs → (length vs ≡ length qs) × (arguments_judged p (term_judged p) s Γ vs qs ≡ Ok true)
    fit_judged [] [] fit = (refl, refl)
    fit_judged [] (q ∷ qs) fit = elim fit [ ]
    fit_judged (v ∷ vs) [] fit = absurd (no_room v fit)
      where
        no_room : (v : Argument) → ArgumentsFit Γ (arguments_of p (v ∷ vs)) [] → ⊥
        no_room (arguments.Value e) fit = elim fit [ ]
        no_room (arguments.Process t) fit = elim fit [ ]
        no_room (arguments.Collection i) fit = elim fit [ ]
    fit_judged (v ∷ vs) ((x, k) ∷ qs) fit =
        let rest = fit_judged vs qs (rest_fits p v vs fit) in
        (omega (arith, rest.0), go _ (fits_judged v k (first_fits p v x k vs fit)) (go _ rest.1 refl))

    argument_apart : {v : Argument} {k : NameKind} {d : Difference} → ArgumentDiffers p Γ s v k d → (d.spot ≡ s) × (argument_judged p (term_judged p) s Γ v k ≡ Ok false)
    argument_apart (differing.value_argument {e = e} {t = t} {u = u} typed h) = (h.at, go _ (typed_judged (program_expressions p) _ e t typed) (ap Ok (told_apart t u (other_than h))))
    argument_apart (differing.process_argument {t = t} {b = b} {c = c} T h) = (h.at, go _ (output_judged p t T) (ap Ok (and_false _ (told_apart c b (other_than h)))))
    argument_apart (differing.members_argument {i = i} {k = k} {l = l} {b = b} {c = c} C h) = (h.at, go _ (members_are_judged p (collection_node p i) C) (ap Ok (told_apart (table_kind l c) (table_kind k b) (other_than h))))

    arguments_apart : {vs : List Argument} {qs : Bindings} {d : Difference} → ArgumentsLeft p Γ vs qs [] [] → ArgumentsDiffer p Γ s vs qs d → (d.spot ≡ s) × (arguments_judged p (term_judged p) s Γ vs qs ≡ Ok false)
    arguments_apart (after_one keeps left) (differing.this_differs h) = let this = argument_apart h in (this.0, go _ this.1 (go _ (all_judged left).1 refl))
    arguments_apart (after_one keeps left) (differing.later_differs {v = v} {k = k} fits h) = let later = arguments_apart left h in (later.0, go _ (fits_judged v k fits) (go _ later.1 refl))
    arguments_apart (all_left many) h = elim h [ ]

    call_apart : {vs : List Argument} {a : Kind} {g : Signature} {o : Option Signature} {d : Difference} → o ≡ Some g → CallDiffers p Γ s vs a g d → call_judged p (term_judged p) s Γ o vs a ≡ Err (breach_of Mismatch d.spot)
    call_apart named (differing.argument_within left h) = go _ (ap (found_or_broken UnknownName s) named) (go _ (holds Arity s (many_as _ _ (left_length left))) (stop _ (left_judged left (stop _ (expression_refused (program_expressions p) h).first))))
    call_apart named (differing.argument_differs left h) =
        let apart = arguments_apart left h in
        go _ (ap (found_or_broken UnknownName s) named) (go _ (holds Arity s (many_as _ _ (left_length left))) (go _ apart.1 (wrong apart.0)))
    call_apart {vs} {a} {g} named (differing.call_input fit h) =
        let all = fit_judged vs g.parameters fit in
        go _ (ap (found_or_broken UnknownName s) named) (go _ (holds Arity s (many_as _ _ all.0)) (go _ all.1 (stop _ (differs h.at (told_apart a g.input (other_than h))))))

    -- ## Forms

    form_apart : {n : Node} {a : Kind} {d : Difference} → FormDiffers p Γ s n a d → node_judged p (term_judged p) s n Γ a ≡ Err (breach_of Mismatch d.spot)
    form_apart (differing.primitive_differs h) = primitive_apart h
    form_apart (differing.process_input {n = n} named h) = go _ (ap (judged_process n) named) (stop _ (differs h.at (told_apart _ _ (other_than h))))
    form_apart (differing.call_itself named h) = call_apart named h
    form_apart (differing.both_inputs {a = a} h) = stop _ (no_parts h.at a (λ b c e. other_than h (b, c, e)))
    form_apart (differing.side_inputs {w = First} {a = a} h) = stop _ (no_parts h.at a (λ b c e. other_than h (b, c, e)))
    form_apart (differing.side_inputs {w = Second} {a = a} h) = stop _ (no_parts h.at a (λ b c e. other_than h (b, c, e)))
    form_apart (differing.head_within {h = LoopPre} h) = stop _ (expression_refused (program_expressions p) h).first
    form_apart (differing.head_within {h = Replaced} h) = stop _ (expression_refused (program_expressions p) h).first
    form_apart (differing.head_within {h = Initialized} h) = stop _ (expression_refused (program_expressions p) h).first
    form_apart (differing.head_within {h = Followed} h) = stop _ (expression_refused (program_expressions p) h).first
    form_apart (differing.fed_output {v = v} {t = t} {a = a} {c = c} {e = e} typed T h) = go _ (typed_judged (program_expressions p) _ v _ typed) (go _ (fits_at s (pair_kind a c) (input_fits T)) (go _ (output_judged p t T) (none_fed h.at e c (λ t e. other_than h (t, e)))))
    form_apart (differing.initial_output {v = v} {t = t} typed T h) = go _ (typed_judged (program_expressions p) _ v _ typed) (go _ (output_judged p t T) (stop _ (differs h.at (told_apart _ _ (other_than h)))))
    form_apart (differing.followed_output {v = v} {t = t} typed T h) = go _ (typed_judged (program_expressions p) _ v _ typed) (go _ (output_judged p t T) (stop _ (differs h.at (told_apart _ _ (other_than h)))))
    form_apart (differing.replaced_input {v = v} {t = t} typed T h) = go _ (typed_judged (program_expressions p) _ v _ typed) (go _ (output_judged p t T) (stop _ (differs h.at (told_apart _ _ (other_than h)))))
    form_apart (differing.transform_within h) = stop _ (function_refused (program_expressions p) h).first
    form_apart (differing.transformed_input {f = f} {t = t} F T h) = go _ (takes_judged (program_expressions p) _ f s _ _ F) (go _ (output_judged p t T) (stop _ (differs h.at (told_apart _ _ (other_than h)))))
    form_apart (differing.source_output {t = t} {e = e} T h) = go _ (output_judged p t T) (stop _ (none_beside h.at e (λ b c e. other_than h (b, c, e))))
    form_apart (differing.event_beside {a = a} h) = stop _ (none_beside h.at a (λ b c e. other_than h (b, c, e)))
    form_apart (differing.switch_body_differs {t = t} (after_source T) h) = go _ (output_judged p t T) (body_apart h)
    form_apart (differing.switch_body_differs {t = t} (beside_input T) h) = go _ (output_judged p t T) (body_apart h)
    form_apart (differing.observer_output {t = t} {o = o} {a = a} {b = b} {e = e} F O h) = go _ (output_judged p t F) (go _ (fits_at s (pair_kind a b) (input_fits O)) (go _ (output_judged p o O) (stop _ (no_payload h.at e (λ c e. other_than h (c, e))))))
    form_apart (differing.continuing_body_differs {t = t} {o = o} {a = a} {b = b} F O h) = go _ (output_judged p t F) (go _ (fits_at s (pair_kind a b) (input_fits O)) (go _ (output_judged p o O) (body_apart h)))
    form_apart (differing.their_observer_output {n = n} {k = k} {a = a} {b = b} {e = e} C O h) =
        let whole = input_fits O in
        go _ (members_are_judged p (collection_node p n.members) C) (go _ (fits_at s (table_kind k b) (omega (arith, whole))) (go _ (fits_at s (pair_kind a (table_kind k b)) whole) (go _ (output_judged p n.observer O) (stop _ (no_payload h.at e (λ c e. other_than h (c, e)))))))
    form_apart (differing.released_body_differs {n = n} {k = k} {a = a} {b = b} C O h) =
        let whole = input_fits O in
        go _ (members_are_judged p (collection_node p n.members) C) (go _ (fits_at s (table_kind k b) (omega (arith, whole))) (go _ (fits_at s (pair_kind a (table_kind k b)) whole) (go _ (output_judged p n.observer O) (body_apart h))))
    form_apart (differing.event_beside_members {a = a} h) = stop _ (none_beside h.at a (λ b c e. other_than h (b, c, e)))
    form_apart (differing.members_edit_differs {n = n} C h) = go _ (members_are_judged p (collection_node p n.members) C) (stop _ (edit_apart h))

    -- a part that is typed next stops its form
    part_stops : {n : Node} {a b : Kind} {Δ : Context} {j : TermId} {e : Breach} → Reaches p Γ n a Δ j b → term_judged p j Δ b ≡ Err e → node_judged p (term_judged p) s n Γ a ≡ Err e
    part_stops (call_argument named left) h = go _ (ap (found_or_broken UnknownName s) named) (go _ (holds Arity s (many_as _ _ (left_length left))) (stop _ (left_judged left (stop _ h))))
    part_stops sequence_left h = stop _ h
    part_stops (sequence_right {f = f} F) h = go _ (output_judged p f F) h
    part_stops parallel_left h = stop _ h
    part_stops (parallel_right {f = f} F) h = go _ (output_judged p f F) (stop _ h)
    part_stops fan_left h = stop _ h
    part_stops (fan_right {f = f} F) h = go _ (output_judged p f F) (stop _ h)
    part_stops first_part h = stop _ h
    part_stops second_part h = stop _ h
    part_stops (head_part {h = LoopPre} {v = v} {a = a} {c = c} typed fits) h = go _ (typed_judged (program_expressions p) _ v _ typed) (go _ (fits_at s (pair_kind a c) fits) (stop _ h))
    part_stops (head_part {h = Replaced} {v = v} typed fits) h = go _ (typed_judged (program_expressions p) _ v _ typed) (stop _ h)
    part_stops (head_part {h = Initialized} {v = v} typed fits) h = go _ (typed_judged (program_expressions p) _ v _ typed) (stop _ h)
    part_stops (head_part {h = Followed} {v = v} typed fits) h = go _ (typed_judged (program_expressions p) _ v _ typed) (stop _ h)
    part_stops (transformed_part {f = f} F) h = go _ (takes_judged (program_expressions p) _ f s _ _ F) (stop _ h)
    part_stops switch_source h = stop _ h
    part_stops recurring_first h = stop _ h
    part_stops (switch_body {t = t} {u = u} {q = q} {a = a} {b = b} {c = c} (after_source T) binds) h = go _ (output_judged p t T) (body_within Γ s q u a b c binds h)
    part_stops (switch_body {t = t} {u = u} {q = q} {a = a} {b = b} {c = c} (beside_input T) binds) h = go _ (output_judged p t T) (body_within Γ s q u a b c binds h)
    part_stops continuing_source h = stop _ h
    part_stops (continuing_observer {t = t} {a = a} {b = b} F fits) h = go _ (output_judged p t F) (go _ (fits_at s (pair_kind a b) fits) (stop _ h))
    part_stops (continuing_body {t = t} {o = o} {u = u} {k = k} {q = q} {a = a} {b = b} {c = c} F O binds) h = go _ (output_judged p t F) (go _ (fits_at s (pair_kind a b) (input_fits O)) (go _ (output_judged p o O) (body_within (continuing_inside p k a b Γ) s q u a b c binds h)))
    part_stops (their_observer {n = n} {k = k} {a = a} {b = b} C fits) h = go _ (members_are_judged p (collection_node p n.members) C) (go _ (fits_at s (table_kind k b) (omega (arith, fits))) (go _ (fits_at s (pair_kind a (table_kind k b)) fits) (stop _ h)))
    part_stops (releasing_body {n = n} {k = k} {a = a} {b = b} {c = c} C O binds) h =
        let whole = input_fits O in
        go _ (members_are_judged p (collection_node p n.members) C) (go _ (fits_at s (table_kind k b) (omega (arith, whole))) (go _ (fits_at s (pair_kind a (table_kind k b)) whole) (go _ (output_judged p n.observer O) (body_within (members_inside p n.name k a b Γ) s n.pattern n.body a (table_kind k b) c binds h))))

    members_stop : {n : Node} {a b : Kind} {Δ : Context} {i : CollectionId} {e : Breach} → ReachesMembers p Γ n a Δ i b → members_judged p (term_judged p) (collection_node p i) Δ b ≡ Err e → node_judged p (term_judged p) s n Γ a ≡ Err e
    members_stop (argument_members named left) h = go _ (ap (found_or_broken UnknownName s) named) (go _ (holds Arity s (many_as _ _ (left_length left))) (stop _ (left_judged left (stop _ h))))
    members_stop gathered_members h = stop _ h
    members_stop releasing_members h = stop _ h
    members_stop editing_members h = stop _ h
    members_stop (their_edit {n = n} C binds) h = go _ (members_are_judged p (collection_node p n.members) C) (stop _ (go _ (binds_binding s (stored_pattern (program_expressions p) n.pattern) binds) (stop _ h)))

-- ## Terms, collections, networks

mutual
  term_apart : {p : Program} {Γ : Context} {i : TermId} {a : Kind} {d : Difference} → TermDiffers p Γ i a d → term_judged p i Γ a ≡ Err (breach_of Mismatch d.spot)
  term_apart {p} {Γ} {i} {a} (differing.term_itself h) = term_form p i Γ a ∙ form_apart p Γ (term_spot_at p i) h
  term_apart {p} {Γ} {i} {a} (differing.term_within reached h) = term_form p i Γ a ∙ part_stops p Γ (term_spot_at p i) reached (term_apart h)
  term_apart {p} {Γ} {i} {a} (differing.term_members reached h) = term_form p i Γ a ∙ members_stop p Γ (term_spot_at p i) reached (collection_apart h)

  collection_apart : {p : Program} {Γ : Context} {c : CollExpr} {a : Kind} {d : Difference} → CollectionDiffers p Γ c a d → members_judged p (term_judged p) c Γ a ≡ Err (breach_of Mismatch d.spot)
  collection_apart (differing.used_inputs {n = n} named h) = go _ (ap (judged_collection n) named) (stop _ (differs h.at (told_apart _ _ (other_than h))))
  collection_apart (differing.added_members h) = stop _ (collection_apart h)
  collection_apart {p} (differing.added_key_within {c = c} C h) = go _ (members_are_judged p c C) (stop _ (expression_refused (program_expressions p) h).first)
  collection_apart {p} (differing.member_within {c = c} {v = v} C I h) = go _ (members_are_judged p c C) (go _ (typed_judged (program_expressions p) _ v _ I) (stop _ (term_apart h)))
  collection_apart {p} (differing.added_key {c = c} {v = v} {t = t} C I T h) = go _ (members_are_judged p c C) (go _ (typed_judged (program_expressions p) _ v _ I) (go _ (output_judged p t T) (stop _ (differs h.at (told_apart _ _ (other_than h))))))
  collection_apart {p} (differing.member_output {c = c} {v = v} {t = t} {s = s} {k = k} C I T h) =
      go _ (members_are_judged p c C) (go _ (typed_judged (program_expressions p) _ v _ I) (go _ (output_judged p t T) (go _ (holds Mismatch s (is_same (kind_of_keys k))) (stop _ (differs h.at (and_false _ (told_apart _ _ (other_than h))))))))
  collection_apart (differing.dropped_members h) = stop _ (collection_apart h)
  collection_apart {p} (differing.dropped_key_within {c = c} C h) = go _ (members_are_judged p c C) (stop _ (expression_refused (program_expressions p) h).first)
  collection_apart {p} (differing.dropped_key {c = c} {v = v} C I h) = go _ (members_are_judged p c C) (go _ (typed_judged (program_expressions p) _ v _ I) (stop _ (differs h.at (told_apart _ _ (other_than h)))))
  collection_apart (differing.kept_members h) = stop _ (collection_apart h)
  collection_apart {p} (differing.kept_within {c = c} C h) = go _ (members_are_judged p c C) (stop _ (function_refused (program_expressions p) h).first)
  collection_apart {p} (differing.kept_truth {c = c} {f = f} {s = s} C F h) = go _ (members_are_judged p c C) (go _ (takes_judged (program_expressions p) _ f s _ _ F) (stop _ (differs h.at (told_apart _ _ (other_than h)))))
  collection_apart {p} (differing.choice_within h) = stop _ (expression_refused (program_expressions p) h).first
  collection_apart {p} (differing.one_members {v = v} I h) = go _ (typed_judged (program_expressions p) _ v _ I) (stop _ (collection_apart h))
  collection_apart {p} (differing.other_members {v = v} {c = c} I C h) = go _ (typed_judged (program_expressions p) _ v _ I) (go _ (members_are_judged p c C) (stop _ (collection_apart h)))
  collection_apart {p} (differing.choice_truth {v = v} {c = c} {e = e} I C D h) = go _ (typed_judged (program_expressions p) _ v _ I) (go _ (members_are_judged p c C) (go _ (members_are_judged p e D) (stop _ (differs h.at (told_apart _ _ (other_than h))))))
  collection_apart {p} (differing.choice_tables {v = v} {c = c} {e = e} I C D h) =
      go _ (typed_judged (program_expressions p) _ v _ I) (go _ (members_are_judged p c C) (go _ (members_are_judged p e D) (stop _ (differs h.at (told_apart _ _ (other_than h))))))

module _ {fs : TypesByName} {p : Program} where
  template_apart : {h : Header} {d : Difference} → TemplateDiffers fs p h d → TemplateBreaks fs p h (breach_of Mismatch d.spot)
  template_apart {h} (differing.template_within k) = record { first = template_within fs p h (term_apart k) }
  template_apart {h} (differing.header_output T k) = record { first = header_apart fs p h T (other_than k) ∙ wrong k.at }

  -- the network is refused there
  pub network_apart : {d : Difference} → NetworkDiffers fs p d → RefusesNetwork fs p (breach_of Mismatch d.spot)
  network_apart h = type_refused h.names (record { place = h.place; header = h.header; at = h.at; typed = h.typed; broken = template_apart h.differs })
