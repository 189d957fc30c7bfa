-- What is judged of a term is what it takes, and what code answers.
use Rattle.std.proofs.Common.{◌≡◌, ◌≢◌, ◌⊎◌, inl, inr, ℕ, zero, suc, ◌+◌, ◌<◌, ◌≤◌, Bool, true, false, ◌&&◌, List, [], ◌∷◌, length, Option, Some, None, Result, Ok, Err, All, refl, sym, ap, ◌∙◌, subst, arith}
use Rattle.std.specs.Prelude.{nat_eq}
use Rattle.std.proofs.lemmas.Bool.Decides.{nat_tests}
use Rattle.std.proofs.lemmas.Option.{same_Some}
use Rattle.std.proofs.lemmas.List.Elements.{All-head, All-tail}
use mathlib.Core.Path.{ap₂, subst₂}
use Rattle.sf_value.specs.Values.{Name, KeyKind, int_keys, text_keys, Kind, bool_kind, pair_kind, event_kind, table_kind}
use Rattle.sf_value.specs.KindView.{key_kind_of}
use Rattle.sf_refusal.specs.declared.spot.Spot.{Spot}
use Rattle.sf_refusal.specs.declared.rule.Rule.TheVariants.{UnknownName, Arity, Mismatch, BadConstant}
use Rattle.sf_refusal.specs.declared.refusal.Breach.{Breach}
use Rattle.sf_refusal.specs.declared.refusal.Refusal.{Refusal}
use Rattle.sf_refusal.specs.Refusals.{breach_of, broken, OrMemory}
use Rattle.sf_refusal.proofs.Explained.{or_memory, breaks_at}
use Rattle.sf_func.specs.Registries.{TypesByName}
use Rattle.sf_operator.specs.Kinds.{same_kind, parts_of, payload_of, kind_of_keys}
use Rattle.sf_operator.proofs.SameKinds.{same_is, is_same, parts_is, payload_is}
use Rattle.sf_expr.specs.declared.exprs.Exprs.{Exprs}
use Rattle.sf_expr.specs.declared.exprs.PatternId.{PatternId}
use Rattle.sf_expr.specs.Arena.{stored_pattern}
use Rattle.sf_expr.specs.Typing.{Fits, Binds}
use Rattle.sf_expr.specs.Judging.{◌>>=◌, matching_at, judged_fitting, judged_binding, judged, function_judged, GivesFound}
use Rattle.sf_expr.proofs.Inferred.{fits_test, test_fits}
use Rattle.sf_expr.proofs.Judged.{fits_at, judged_typed, typed_judged, function_typed, takes_judged, binding_binds, binds_binding, stops_so}
use Rattle.sf_term.specs.declared.form.Bare.{Bare}
use Rattle.sf_term.specs.declared.form.Bare.TheVariants as bares
use Rattle.sf_term.specs.declared.form.Join.TheVariants.{InSequence, InParallel, FannedOut}
use Rattle.sf_term.specs.declared.form.Side.TheVariants.{First, Second}
use Rattle.sf_term.specs.declared.form.Heading.TheVariants.{LoopPre, Replaced, Initialized, Followed}
use Rattle.sf_term.specs.declared.form.Naming.TheVariants.{Process, Probe}
use Rattle.sf_term.specs.declared.form.Switching.{Switching}
use Rattle.sf_term.specs.declared.form.Switching.TheVariants.{Basic, Recurring}
use Rattle.sf_term.specs.declared.node.TermId.{TermId}
use Rattle.sf_term.specs.declared.node.Argument.{Argument}
use Rattle.sf_term.specs.declared.node.Argument.TheVariants as arguments
use Rattle.sf_term.specs.declared.node.Primitive.{Primitive}
use Rattle.sf_term.specs.declared.node.Primitive.TheVariants as primitives
use Rattle.sf_term.specs.declared.node.Switch.{Switch}
use Rattle.sf_term.specs.declared.node.Node.{Node}
use Rattle.sf_term.specs.declared.node.Node.TheVariants as nodes
use Rattle.sf_term.specs.declared.collection.CollExpr.{CollExpr}
use Rattle.sf_term.specs.declared.collection.CollExpr.TheVariants as collections
use Rattle.sf_term.specs.declared.program.Program.{Program}
use Rattle.sf_term.specs.Headers.{Header}
use Rattle.sf_term.specs.Parameters.{parameters_of}
use Rattle.sf_term.specs.Arena.{term_template, templates_of, tree, term_number, term_node_at, term_spot_at, program_expressions, argument_nodes, arguments_of, collection_node, collection_of, CollectionBelow, ArgumentBelow, TermPartsBelow}
use Rattle.sf_mean.specs.Contexts.{NameKind, value, process, collection, Bindings, Signature, signature_named, Context, names_of_values, template_context, inside_pattern}
use Rattle.sf_mean.specs.Typing.{bare_kind, selected_kind, accumulated_argument, PrimitiveTakes, bare_takes, probe_takes, never_takes, value_takes, timed_takes, selected_takes, accumulated_takes, arrow_takes, Takes, takes, FormTakes, primitive_takes, started_takes, call_takes, sequence_takes, parallel_takes, fan_takes, first_takes, second_takes, loop_takes, initialized_takes, replaced_takes, followed_takes, transformed_takes, switch_takes, recurring_takes, continuing_takes, gathered_takes, releasing_takes, editing_takes, Collects, collects_none, collects_used, collects_added, collects_dropped, collects_kept, collects_chosen, ArgumentsFit, no_argument_fits, value_fits, process_fits, collection_fits, ParameterFits, IsTyped}
use Rattle.sf_mean.proofs.Inferred.{input_fits, output_fits, form_of, names_inside}
use Rattle.sf_check.specs.declared.member_types.MemberTypes.{MemberTypes}
use Rattle.sf_check.specs.Standing.{kind_named, program_pattern, program_name, continuing_inside, members_inside, BindsInside}
use Rattle.sf_check.specs.Judging.{asked, found_or_broken, judged_beside, judged_process, judged_collection, bare_judged, primitive_judged, body_judged, edit_judged, members_judged, argument_judged, arguments_judged, switch_judged, node_judged, term_judged, template_judged, GivesMembers}
use Rattle.sf_check.specs.Breaking.{TermBreaks, TemplateBreaks}
use Rattle.sf_check.specs.Answering.{primitive_in, ArgumentFits, AnswersTerm, AnswersMembers}
use Rattle.sf_check.proofs.Types.{argument_fits, primitive_fits, keys_of_table, values_of_table, typed_in, typed_under, taken_in, taken_under}
use Rattle.sf_check.proofs.Contexts.{process_is, is_process, collection_is, is_collection}
use Rattle.sf_check.proofs.Made.{made, tree_made}
use Rattle.sf_check.proofs.Calls.{fits_before}
use Rattle.sf_check.proofs.Judging.{go, stop, ok_then, holds, fails, asked_then, one_ok, fitted, pairs_then, node_below, term_form}

-- ## What was found

matched : {A : Type 0} (s : Spot) (o : Option A) {x : A} → matching_at s o ≡ Ok x → o ≡ Some x
matched s None h = absurd cc
matched s (Some y) h = ap (λ y. Some y) (one_ok (Ok y) refl h)

beside_is : (s : Spot) (d : Kind) {k : Kind × Kind} → judged_beside s d ≡ Ok k → d ≡ pair_kind k.0 (event_kind k.1)
beside_is s d {k} h =
    let P = ok_then (matching_at s (parts_of d)) _ h in
    let C = ok_then (matching_at s (payload_of P.0.1)) _ P.2 in
    let is : (P.0.0, C.0) ≡ k = one_ok (Ok (P.0.0, C.0)) refl C.2 in
    parts_is d (matched s (parts_of d) P.1) ∙ ap₂ pair_kind (ap (λ (k : Kind × Kind). k.0) is) (payload_is P.0.1 (matched s (payload_of P.0.1) C.1) ∙ ap (λ (k : Kind × Kind). event_kind k.1) is)

process_was : (s : Spot) (o : Option NameKind) {k : Kind × Kind} → judged_process s o ≡ Ok k → o ≡ Some (process k.0 k.1)
process_was s None h = absurd cc
process_was s (Some (value t)) h = absurd cc
process_was s (Some (process a b)) h = ap (λ (k : Kind × Kind). Some (process k.0 k.1)) (one_ok (Ok (a, b)) refl h)
process_was s (Some (collection k a b)) h = absurd cc

members_were : (s : Spot) (o : Option NameKind) {k : KeyKind × Kind × Kind} → judged_collection s o ≡ Ok k → o ≡ Some (collection k.0 k.1 k.2)
members_were s None h = absurd cc
members_were s (Some (value t)) h = absurd cc
members_were s (Some (process a b)) h = absurd cc
members_were s (Some (collection k a b)) h = ap (λ (k : KeyKind × Kind × Kind). Some (collection k.0 k.1 k.2)) (one_ok (Ok (k, a, b)) refl h)

signature_was : (s : Spot) (o : Option Signature) {g : Signature} → found_or_broken UnknownName s o ≡ Ok g → o ≡ Some g
signature_was s None h = absurd cc
signature_was s (Some f) h = ap (λ (f : Signature). Some f) (one_ok (Ok f) refl h)

both_true : (b c : Bool) → b && c ≡ true → (b ≡ true) × (c ≡ true)
both_true true c h = (refl, h)
both_true false c h = absurd cc

as_many : (m n : ℕ) → nat_eq m n ≡ true → m ≡ n
as_many m n h = grind (arith, nat_tests)

pub many_as : (m n : ℕ) → m ≡ n → nat_eq m n ≡ true
many_as m n h = grind (arith, nat_tests)

keys_fit : (k : KeyKind) → Fits (kind_of_keys k)
keys_fit int_keys = omega arith
keys_fit text_keys = omega arith

-- a type that was found fits
fits_then : {B : Type 0} (s : Spot) (t : Kind) (f : Kind → Result B Breach) {y : B} → (judged_fitting s (Some t) >>= f) ≡ Ok y → Fits t × (f t ≡ Ok y)
fits_then s t f {y} h =
    let T = ok_then (judged_fitting s (Some t)) f h in
    let k = fitted s (Some t) T.1 in
    let is : t ≡ T.0 = same_Some _ _ k.0 in
    (subst (λ (t : Kind). Fits t) (sym is) k.1, subst (λ t. f t ≡ Ok y) (sym is) T.2)

-- ## Primitives

bare_found : (s : Spot) (k : Bare) (a : Kind) {b : Kind} → bare_judged s k a ≡ Ok b → judged_fitting s (bare_kind k a) ≡ Ok b
bare_found s bares.Identity a h = h
bare_found s bares.LocalTime a h = h
bare_found s bares.Integral a h = h
bare_found s bares.Edge a h = h
bare_found s bares.NotYet a h = h
bare_found s bares.Once a h = h
bare_found s bares.Count a h = h
bare_found s bares.Pre a h = absurd cc

found_bare : (s : Spot) (k : Bare) (a : Kind) {b : Kind} → bare_kind k a ≡ Some b → judged_fitting s (bare_kind k a) ≡ Ok b → bare_judged s k a ≡ Ok b
found_bare s bares.Identity a e h = h
found_bare s bares.LocalTime a e h = h
found_bare s bares.Integral a e h = h
found_bare s bares.Edge a e h = h
found_bare s bares.NotYet a e h = h
found_bare s bares.Once a e h = h
found_bare s bares.Count a e h = h
found_bare s bares.Pre a e h = absurd cc

pub fitting_as : (s : Spot) {o : Option Kind} {b : Kind} → o ≡ Some b → Fits b → judged_fitting s o ≡ Ok b
fitting_as s {b = b} e f = ap (judged_fitting s) e ∙ fits_at s b f

module _ (x : Exprs) (s : Spot) (Γ : Context) where
  primitive_sound : (q : Primitive) (a b : Kind) → Fits a → primitive_judged x s q Γ a ≡ Ok b → PrimitiveTakes Γ (primitive_in x q) a b
  primitive_sound (primitives.Bare k) a b fits h = let f = fitted s (bare_kind k a) (bare_found s k a h) in bare_takes f.0 f.1
  primitive_sound (primitives.Never n) a b fits h =
      let f = fitted s _ h in
      subst (PrimitiveTakes Γ (primitive_in x (primitives.Never n)) a) (same_Some _ _ f.0) (never_takes (subst (λ (t : Kind). Fits t) (sym (same_Some _ _ f.0)) f.1))
  primitive_sound (primitives.WithValue k v) a b fits h =
      let T = ok_then (judged x v (names_of_values Γ)) _ h in
      let f = fitted s _ T.2 in
      value_takes (judged_typed x (names_of_values Γ) v T.0 T.1) f.0 f.1
  primitive_sound (primitives.Timed k q v) a b fits h =
      let T = ok_then (judged x v (names_of_values Γ)) _ h in
      let i = asked_then Mismatch s _ _ T.2 in
      let w = asked_then BadConstant s _ _ i.1 in
      let f = fitted s _ w.1 in
      timed_takes (judged_typed x (names_of_values Γ) v T.0 T.1) i.0 w.0 f.0 f.1
  primitive_sound (primitives.Selected k n) a b fits h =
      let B = ok_then (judged_fitting s (selected_kind a)) _ h in
      let w = asked_then BadConstant s _ _ B.2 in
      let f = fitted s _ (B.1 ∙ w.1) in
      selected_takes f.0 w.0 f.1
  primitive_sound (primitives.Arrow g) a b fits h = arrow_takes (function_typed x (names_of_values Γ) g s a b fits h)
  primitive_sound (primitives.Accumulated k v g) a b fits h =
      let T = ok_then (judged x v (names_of_values Γ)) _ h in
      let C = ok_then (judged_fitting s (accumulated_argument k T.0 a)) _ T.2 in
      let c = fitted s _ C.1 in
      let U = ok_then (function_judged x g s C.0 (names_of_values Γ)) _ C.2 in
      let f = fitted s _ U.2 in
      accumulated_takes (judged_typed x (names_of_values Γ) v T.0 T.1) c.0 (function_typed x (names_of_values Γ) g s C.0 U.0 c.1 U.1) f.0 f.1

  primitive_complete : (q : Primitive) {a b : Kind} → PrimitiveTakes Γ (primitive_in x q) a b → primitive_judged x s q Γ a ≡ Ok b
  primitive_complete (primitives.Bare k) (bare_takes h f) = found_bare s k _ h (fitting_as s h f)
  primitive_complete (primitives.Never n) (never_takes f) = fits_at s _ f
  primitive_complete (primitives.WithValue k v) (value_takes i h f) = go _ (typed_judged x (names_of_values Γ) v _ i) (fitting_as s h f)
  primitive_complete (primitives.Timed k q v) (timed_takes i m w h f) = go _ (typed_judged x (names_of_values Γ) v _ i) (go _ (holds Mismatch s m) (go _ (holds BadConstant s w) (fitting_as s h f)))
  primitive_complete (primitives.Selected k n) (selected_takes h w f) = go _ (fitting_as s h f) (go _ (holds BadConstant s w) refl)
  primitive_complete (primitives.Arrow g) (arrow_takes F) = takes_judged x (names_of_values Γ) g s _ _ F
  primitive_complete (primitives.Accumulated k v g) (accumulated_takes i e F h f) =
      go _ (typed_judged x (names_of_values Γ) v _ i) (go _ (fitting_as s e (argument_fits F)) (go _ (takes_judged x (names_of_values Γ) g s _ _ F) (fitting_as s h f)))

-- ## What is judged is taken

module _ (p : Program) (n : ℕ) (part : (j : TermId) → term_number j < n → (Δ : Context) (a b : Kind) → Fits a → term_judged p j Δ a ≡ Ok b → Takes Δ (tree p j) a b) where
  members_sound : (c : CollExpr) → CollectionBelow n c → (Γ : Context) (a : Kind) (m : KeyKind × Kind) → members_judged p (term_judged p) c Γ a ≡ Ok m → Collects Γ (collection_of p c) m.0 a m.1
  members_sound (collections.Empty k t s) l Γ a m h = subst (λ (m : KeyKind × Kind). Collects Γ (collection_of p (collections.Empty k t s)) m.0 a m.1) (one_ok (Ok (key_kind_of k, t)) refl h) collects_none
  members_sound (collections.Used x i s) l Γ a m h =
      let K = ok_then (judged_collection i (kind_named (program_name p x) Γ.bindings)) _ h in
      let e = asked_then Mismatch s _ _ K.2 in
      let same : K.0.1 ≡ a = sym (same_is a K.0.1 e.0) in
      subst (λ (m : KeyKind × Kind). Collects Γ (collection_of p (collections.Used x i s)) m.0 a m.1) (one_ok (Ok (K.0.0, K.0.2)) refl e.1)
      (collects_used (collection_is (program_name p x) Γ.bindings (members_were i _ K.1 ∙ ap (λ b. Some (collection K.0.0 b K.0.2)) same)))
  members_sound (collections.Added' o c v t s) l Γ a m h =
      let R = names_of_values Γ in
      let M = ok_then (members_judged p (term_judged p) c Γ a) _ h in
      let U = ok_then (judged (program_expressions p) v R) _ M.2 in
      let D = ok_then (term_judged p t Γ a) _ U.2 in
      let k = asked_then Mismatch s (same_kind U.0 (kind_of_keys M.0.0)) _ D.2 in
      let e = asked_then Mismatch s _ _ k.1 in
      let both = both_true _ (same_kind D.0 M.0.1) e.0 in
      subst (λ (m : KeyKind × Kind). Collects Γ (collection_of p (collections.Added' o c v t s)) m.0 a m.1) (one_ok (Ok M.0) refl e.1)
      (collects_added (members_sound c l.0 Γ a M.0 M.1) (typed_under p v (judged_typed (program_expressions p) R v (kind_of_keys M.0.0) (U.1 ∙ ap Ok (same_is U.0 (kind_of_keys M.0.0) k.0))))
      (part t l.1 Γ a M.0.1 (fits_test a both.0) (D.1 ∙ ap Ok (same_is D.0 M.0.1 both.1))))
  members_sound (collections.Dropped' o c v s) l Γ a m h =
      let R = names_of_values Γ in
      let M = ok_then (members_judged p (term_judged p) c Γ a) _ h in
      let U = ok_then (judged (program_expressions p) v R) _ M.2 in
      let k = asked_then Mismatch s (same_kind U.0 (kind_of_keys M.0.0)) _ U.2 in
      subst (λ (m : KeyKind × Kind). Collects Γ (collection_of p (collections.Dropped' o c v s)) m.0 a m.1) (one_ok (Ok M.0) refl k.1)
      (collects_dropped (members_sound c l Γ a M.0 M.1) (typed_under p v (judged_typed (program_expressions p) R v (kind_of_keys M.0.0) (U.1 ∙ ap Ok (same_is U.0 (kind_of_keys M.0.0) k.0)))))
  members_sound (collections.Kept' o c f s) l Γ a m h =
      let R = names_of_values Γ in
      let M = ok_then (members_judged p (term_judged p) c Γ a) _ h in
      let U = ok_then (function_judged (program_expressions p) f s (kind_of_keys M.0.0) R) _ M.2 in
      let k = asked_then Mismatch s (same_kind U.0 bool_kind) _ U.2 in
      subst (λ (m : KeyKind × Kind). Collects Γ (collection_of p (collections.Kept' o c f s)) m.0 a m.1) (one_ok (Ok M.0) refl k.1)
      (collects_kept (members_sound c l Γ a M.0 M.1) (taken_under p f (function_typed (program_expressions p) R f s (kind_of_keys M.0.0) bool_kind (keys_fit M.0.0) (U.1 ∙ ap Ok (same_is U.0 bool_kind k.0)))))
  members_sound (collections.Chosen' v o c r d s) l Γ a m h =
      let R = names_of_values Γ in
      let U = ok_then (judged (program_expressions p) v R) _ h in
      let M = ok_then (members_judged p (term_judged p) c Γ a) _ U.2 in
      let L = ok_then (members_judged p (term_judged p) d Γ a) _ M.2 in
      let k = asked_then Mismatch s (same_kind U.0 bool_kind) _ L.2 in
      let e = asked_then Mismatch s (same_kind (table_kind L.0.0 L.0.1) (table_kind M.0.0 M.0.1)) _ k.1 in
      let same = same_is (table_kind L.0.0 L.0.1) (table_kind M.0.0 M.0.1) e.0 in
      subst (λ (m : KeyKind × Kind). Collects Γ (collection_of p (collections.Chosen' v o c r d s)) m.0 a m.1) (one_ok (Ok M.0) refl e.1)
      (collects_chosen (typed_under p v (judged_typed (program_expressions p) R v bool_kind (U.1 ∙ ap Ok (same_is U.0 bool_kind k.0)))) (members_sound c l.0 Γ a M.0 M.1)
      (subst₂ (λ k b. Collects Γ (collection_of p d) k a b) (keys_of_table same) (values_of_table same) (members_sound d l.1 Γ a L.0 L.1)))

  argument_sound : (s : Spot) (Γ : Context) (v : Argument) (k : NameKind) → ArgumentBelow p n v → argument_judged p (term_judged p) s Γ v k ≡ Ok true → ArgumentFits p Γ v k
  argument_sound s Γ (arguments.Value v) (value u) l h =
      let T = ok_then (judged (program_expressions p) v (names_of_values Γ)) _ h in
      judged_typed (program_expressions p) (names_of_values Γ) v u (T.1 ∙ ap Ok (same_is T.0 u (one_ok (Ok (same_kind T.0 u)) refl T.2)))
  argument_sound s Γ (arguments.Value v) (process a b) l h = let T = ok_then (judged (program_expressions p) v (names_of_values Γ)) _ h in let no : false ≡ true = one_ok (Ok false) refl T.2 in absurd cc
  argument_sound s Γ (arguments.Value v) (collection k a b) l h = let T = ok_then (judged (program_expressions p) v (names_of_values Γ)) _ h in let no : false ≡ true = one_ok (Ok false) refl T.2 in absurd cc
  argument_sound s Γ (arguments.Process t) (value u) l h = absurd cc
  argument_sound s Γ (arguments.Process t) (process a b) l h =
      let C = ok_then (term_judged p t Γ a) _ h in
      let both = both_true _ (same_kind C.0 b) (one_ok (Ok _) refl C.2) in
      part t l Γ a b (fits_test a both.0) (C.1 ∙ ap Ok (same_is C.0 b both.1))
  argument_sound s Γ (arguments.Process t) (collection k a b) l h = absurd cc
  argument_sound s Γ (arguments.Collection i) (value u) l h = absurd cc
  argument_sound s Γ (arguments.Collection i) (process a b) l h = absurd cc
  argument_sound s Γ (arguments.Collection i) (collection k a b) l h =
      let M = ok_then (members_judged p (term_judged p) (collection_node p i) Γ a) _ h in
      let same = same_is (table_kind M.0.0 M.0.1) (table_kind k b) (one_ok (Ok _) refl M.2) in
      subst₂ (λ k b. Collects Γ (collection_of p (collection_node p i)) k a b) (keys_of_table same) (values_of_table same) (members_sound (collection_node p i) l Γ a M.0 M.1)

  arguments_sound : (s : Spot) (Γ : Context) (vs : List Argument) (qs : Bindings) → All (ArgumentBelow p n) vs → length vs ≡ length qs → arguments_judged p (term_judged p) s Γ vs qs ≡ Ok true → ArgumentsFit Γ (arguments_of p vs) qs
  arguments_sound s Γ [] [] l many h = no_argument_fits
  arguments_sound s Γ [] (q ∷ qs) l many h = absurd (omega (arith, many))
  arguments_sound s Γ (v ∷ vs) [] l many h = absurd (omega (arith, many))
  arguments_sound s Γ (v ∷ vs) (q ∷ qs) l many h =
      let F = ok_then (argument_judged p (term_judged p) s Γ v q.1) _ h in
      let G = ok_then (arguments_judged p (term_judged p) s Γ vs qs) _ F.2 in
      let both = both_true F.0 G.0 (one_ok (Ok _) refl G.2) in
      fits_before p v q.0 q.1 vs (argument_sound s Γ v q.1 (All-head (ArgumentBelow p n) v vs l) (F.1 ∙ ap Ok both.0)) (arguments_sound s Γ vs qs (All-tail (ArgumentBelow p n) v vs l) (omega (arith, many)) (G.1 ∙ ap Ok both.1))

  binds_sound : (s : Spot) (q : PatternId) (c : Kind) (Δ : Context) → {S : _} → judged_binding s (stored_pattern (program_expressions p) q) c (names_of_values Δ) ≡ Ok S → BindsInside (program_pattern p q) c Δ
  binds_sound s q c Δ {S} h =
      let B = binding_binds s (stored_pattern (program_expressions p) q) c (names_of_values Δ) S h in
      subst (λ S. Binds (program_pattern p q) c (names_of_values Δ) S) (names_inside Δ.functions Δ.bindings B.adds refl) B

  body_sound : (s : Spot) (q : PatternId) (u : TermId) → term_number u < n → (Δ : Context) (a b c d : Kind) → Fits a → body_judged p s q (term_judged p u) a b c Δ ≡ Ok d
      → (b ≡ d) × BindsInside (program_pattern p q) c Δ × Takes (inside_pattern (program_pattern p q) c Δ) (tree p u) a b
  body_sound s q u l Δ a b c d fits h =
      let B = ok_then (judged_binding s (stored_pattern (program_expressions p) q) c (names_of_values Δ)) _ h in
      let D = ok_then (term_judged p u (inside_pattern (program_pattern p q) c Δ) a) _ B.2 in
      let e = asked_then Mismatch s (same_kind D.0 b) _ D.2 in
      let same = same_is D.0 b e.0 in
      (sym same ∙ one_ok (Ok D.0) refl e.1, binds_sound s q c Δ B.1, part u l (inside_pattern (program_pattern p q) c Δ) a b fits (D.1 ∙ ap Ok same))

  edit_sound : (s : Spot) (q : PatternId) (u : CollExpr) → CollectionBelow n u → (Δ : Context) (a : Kind) (m : KeyKind × Kind) (c : Kind) {e : KeyKind × Kind} → edit_judged p s q (members_judged p (term_judged p) u) a m c Δ ≡ Ok e
      → BindsInside (program_pattern p q) c Δ × Collects (inside_pattern (program_pattern p q) c Δ) (collection_of p u) m.0 a m.1
  edit_sound s q u l Δ a m c h =
      let B = ok_then (judged_binding s (stored_pattern (program_expressions p) q) c (names_of_values Δ)) _ h in
      let E = ok_then (members_judged p (term_judged p) u (inside_pattern (program_pattern p q) c Δ) a) _ B.2 in
      let e = asked_then Mismatch s (same_kind (table_kind E.0.0 E.0.1) (table_kind m.0 m.1)) _ E.2 in
      let same = same_is (table_kind E.0.0 E.0.1) (table_kind m.0 m.1) e.0 in
      (binds_sound s q c Δ B.1, subst₂ (λ k b. Collects (inside_pattern (program_pattern p q) c Δ) (collection_of p u) k a b) (keys_of_table same) (values_of_table same) (members_sound u l (inside_pattern (program_pattern p q) c Δ) a E.0 E.1))

  switch_sound : (s : Spot) (m : Switch) (w : Switching) → TermPartsBelow p (nodes.Switching m) n → (Γ : Context) (a b : Kind) → Fits a → switch_judged p (term_judged p) s m w Γ a ≡ Ok b → Takes Γ (made p (nodes.Switching (record m { form = w }))) a b
  switch_sound s m (Basic w) l Γ a b fits h =
      let D = ok_then (term_judged p m.source Γ a) _ h in
      let K = ok_then (judged_beside s D.0) _ D.2 in
      let T = part m.source l.0 Γ a (pair_kind K.0.0 (event_kind K.0.1)) fits (D.1 ∙ ap Ok (beside_is s D.0 K.1)) in
      let B = body_sound s m.pattern m.body l.1 Γ a K.0.0 K.0.1 b fits K.2 in
      subst (Takes Γ (made p (nodes.Switching (record m { form = Basic w }))) a) B.0 (takes fits (output_fits B.2) (switch_takes T B.1 B.2))
  switch_sound s m (Recurring w) l Γ a b fits h =
      let K = ok_then (judged_beside s a) _ h in
      let is = beside_is s a K.1 in
      let big : Fits (pair_kind K.0.0 (event_kind K.0.1)) = subst (λ (a : Kind). Fits a) is fits in
      let D = ok_then (term_judged p m.source Γ K.0.0) _ K.2 in
      let small : Fits K.0.0 = omega (arith, big) in
      let T = part m.source l.0 Γ K.0.0 D.0 small D.1 in
      let B = body_sound s m.pattern m.body l.1 Γ K.0.0 D.0 K.0.1 b small D.2 in
      subst₂ (Takes Γ (made p (nodes.Switching (record m { form = Recurring w })))) (sym is) B.0 (takes big (output_fits T) (recurring_takes T B.1 B.2))

  node_sound : (s : Spot) (m : Node) → TermPartsBelow p m n → (Γ : Context) (a b : Kind) → Fits a → node_judged p (term_judged p) s m Γ a ≡ Ok b → Takes Γ (made p m) a b
  node_sound s (nodes.Primitive q) l Γ a b fits h = let t = primitive_sound (program_expressions p) s Γ q a b fits h in takes fits (primitive_fits fits t) (primitive_takes t)
  node_sound s (nodes.Named (Process w) x i) l Γ a b fits h =
      let K = ok_then (judged_process i (kind_named (program_name p x) Γ.bindings)) _ h in
      let e = asked_then Mismatch s (same_kind a K.0.0) _ K.2 in
      let f = fitted s (Some K.0.1) e.1 in
      takes fits f.1 (started_takes (process_is (program_name p x) Γ.bindings (process_was i _ K.1 ∙ ap₂ (λ c d. Some (process c d)) (sym (same_is a K.0.0 e.0)) (same_Some _ _ f.0))))
  node_sound s (nodes.Named Probe x i) l Γ a b fits h = let f = fitted s (Some a) h in subst (Takes Γ (made p (nodes.Named Probe x i)) a) (same_Some _ _ f.0) (takes fits fits (primitive_takes (probe_takes fits)))
  node_sound s (nodes.Call x vs) l Γ a b fits h =
      let G = ok_then (found_or_broken UnknownName s (signature_named (program_name p x) Γ.signatures)) _ h in
      let i = asked_then Arity s (nat_eq (length (argument_nodes p vs)) (length G.0.parameters)) _ G.2 in
      let F = ok_then (arguments_judged p (term_judged p) s Γ (argument_nodes p vs) G.0.parameters) _ i.1 in
      let e = asked_then Mismatch s (F.0 && same_kind a G.0.input) _ F.2 in
      let both = both_true F.0 (same_kind a G.0.input) e.0 in
      let f = fitted s (Some G.0.output) e.1 in
      let form = call_takes (signature_was s _ G.1) (arguments_sound s Γ (argument_nodes p vs) G.0.parameters l (as_many _ _ i.0) (F.1 ∙ ap Ok both.0)) in
      takes fits f.1 (subst₂ (FormTakes Γ (made p (nodes.Call x vs))) (sym (same_is a G.0.input both.1)) (same_Some _ _ f.0) form)
  node_sound s (nodes.Joined InSequence i j) l Γ a b fits h =
      let F = ok_then (term_judged p i Γ a) _ h in
      let T = part i l.0 Γ a F.0 fits F.1 in
      let U = part j l.1 Γ F.0 b (output_fits T) F.2 in
      takes fits (output_fits U) (sequence_takes T U)
  node_sound s (nodes.Joined InParallel i j) l Γ a b fits h = pairs_then (λ a. Fits a → Takes Γ (made p (nodes.Joined InParallel i j)) a b) s a _ both h fits
    where
      both : (c d : Kind) → (term_judged p i Γ c >>= λ v. term_judged p j Γ d >>= λ w. judged_fitting s (Some (pair_kind v w))) ≡ Ok b → Fits (pair_kind c d) → Takes Γ (made p (nodes.Joined InParallel i j)) (pair_kind c d) b
      both c d h fits =
          let F = ok_then (term_judged p i Γ c) _ h in
          let G = ok_then (term_judged p j Γ d) _ F.2 in
          let f = fitted s (Some (pair_kind F.0 G.0)) G.2 in
          takes fits f.1 (subst (FormTakes Γ (made p (nodes.Joined InParallel i j)) (pair_kind c d)) (same_Some _ _ f.0) (parallel_takes (part i l.0 Γ c F.0 (omega (arith, fits)) F.1) (part j l.1 Γ d G.0 (omega (arith, fits)) G.1)))
  node_sound s (nodes.Joined FannedOut i j) l Γ a b fits h =
      let F = ok_then (term_judged p i Γ a) _ h in
      let G = ok_then (term_judged p j Γ a) _ F.2 in
      let f = fitted s (Some (pair_kind F.0 G.0)) G.2 in
      takes fits f.1 (subst (FormTakes Γ (made p (nodes.Joined FannedOut i j)) a) (same_Some _ _ f.0) (fan_takes (part i l.0 Γ a F.0 fits F.1) (part j l.1 Γ a G.0 fits G.1)))
  node_sound s (nodes.Sided First i) l Γ a b fits h = pairs_then (λ a. Fits a → Takes Γ (made p (nodes.Sided First i)) a b) s a _ first h fits
    where
      first : (c d : Kind) → (term_judged p i Γ c >>= λ v. judged_fitting s (Some (pair_kind v d))) ≡ Ok b → Fits (pair_kind c d) → Takes Γ (made p (nodes.Sided First i)) (pair_kind c d) b
      first c d h fits =
          let F = ok_then (term_judged p i Γ c) _ h in
          let f = fitted s (Some (pair_kind F.0 d)) F.2 in
          takes fits f.1 (subst (FormTakes Γ (made p (nodes.Sided First i)) (pair_kind c d)) (same_Some _ _ f.0) (first_takes (part i l Γ c F.0 (omega (arith, fits)) F.1)))
  node_sound s (nodes.Sided Second i) l Γ a b fits h = pairs_then (λ a. Fits a → Takes Γ (made p (nodes.Sided Second i)) a b) s a _ second h fits
    where
      second : (c d : Kind) → (term_judged p i Γ d >>= λ v. judged_fitting s (Some (pair_kind c v))) ≡ Ok b → Fits (pair_kind c d) → Takes Γ (made p (nodes.Sided Second i)) (pair_kind c d) b
      second c d h fits =
          let F = ok_then (term_judged p i Γ d) _ h in
          let f = fitted s (Some (pair_kind c F.0)) F.2 in
          takes fits f.1 (subst (FormTakes Γ (made p (nodes.Sided Second i)) (pair_kind c d)) (same_Some _ _ f.0) (second_takes (part i l Γ d F.0 (omega (arith, fits)) F.1)))
  node_sound s (nodes.Headed LoopPre v i) l Γ a b fits h =
      let C = ok_then (judged (program_expressions p) v (names_of_values Γ)) _ h in
      let W = fits_then s (pair_kind a C.0) _ C.2 in
      let D = ok_then (term_judged p i Γ (pair_kind a C.0)) _ W.1 in
      let K = ok_then (matching_at s (parts_of D.0)) _ D.2 in
      let e = asked_then Mismatch s (same_kind K.0.1 C.0) _ K.2 in
      let is : D.0 ≡ pair_kind b C.0 = parts_is D.0 (matched s (parts_of D.0) K.1) ∙ ap₂ pair_kind (one_ok (Ok K.0.0) refl e.1) (same_is K.0.1 C.0 e.0) in
      let T = part i l Γ (pair_kind a C.0) (pair_kind b C.0) W.0 (D.1 ∙ ap Ok is) in
      takes fits (let big : Fits (pair_kind b C.0) = output_fits T in omega (arith, big)) (loop_takes (judged_typed (program_expressions p) (names_of_values Γ) v C.0 C.1) T)
  node_sound s (nodes.Headed Replaced v i) l Γ a b fits h =
      let C = ok_then (judged (program_expressions p) v (names_of_values Γ)) _ h in
      let D = ok_then (term_judged p i Γ a) _ C.2 in
      let e = asked_then Mismatch s (same_kind C.0 a) _ D.2 in
      let T = part i l Γ a b fits (D.1 ∙ e.1) in
      takes fits (output_fits T) (replaced_takes (judged_typed (program_expressions p) (names_of_values Γ) v a (C.1 ∙ ap Ok (same_is C.0 a e.0))) T)
  node_sound s (nodes.Headed Initialized v i) l Γ a b fits h =
      let C = ok_then (judged (program_expressions p) v (names_of_values Γ)) _ h in
      let D = ok_then (term_judged p i Γ a) _ C.2 in
      let e = asked_then Mismatch s (same_kind D.0 C.0) _ D.2 in
      let T = part i l Γ a b fits (D.1 ∙ e.1) in
      takes fits (output_fits T) (initialized_takes (judged_typed (program_expressions p) (names_of_values Γ) v b (C.1 ∙ ap Ok (sym (same_is D.0 C.0 e.0)) ∙ e.1)) T)
  node_sound s (nodes.Headed Followed v i) l Γ a b fits h =
      let C = ok_then (judged (program_expressions p) v (names_of_values Γ)) _ h in
      let D = ok_then (term_judged p i Γ a) _ C.2 in
      let e = asked_then Mismatch s (same_kind D.0 C.0) _ D.2 in
      let T = part i l Γ a b fits (D.1 ∙ e.1) in
      takes fits (output_fits T) (followed_takes (judged_typed (program_expressions p) (names_of_values Γ) v b (C.1 ∙ ap Ok (sym (same_is D.0 C.0 e.0)) ∙ e.1)) T)
  node_sound s (nodes.Transformed g i) l Γ a b fits h =
      let C = ok_then (function_judged (program_expressions p) g s a (names_of_values Γ)) _ h in
      let D = ok_then (term_judged p i Γ a) _ C.2 in
      let e = asked_then Mismatch s (same_kind C.0 a) _ D.2 in
      let T = part i l Γ a b fits (D.1 ∙ e.1) in
      takes fits (output_fits T) (transformed_takes (function_typed (program_expressions p) (names_of_values Γ) g s a a fits (C.1 ∙ ap Ok (same_is C.0 a e.0))) T)
  node_sound s (nodes.Switching m) l Γ a b fits h = switch_sound s m m.form l Γ a b fits h
  node_sound s (nodes.Continuation m) l Γ a b fits h =
      let D = ok_then (term_judged p m.source Γ a) _ h in
      let W = fits_then s (pair_kind a D.0) _ D.2 in
      let O = ok_then (term_judged p m.observer Γ (pair_kind a D.0)) _ W.1 in
      let C = ok_then (matching_at s (payload_of O.0)) _ O.2 in
      let T = part m.source l.0 Γ a D.0 fits D.1 in
      let S = part m.observer l.1 Γ (pair_kind a D.0) (event_kind C.0) W.0 (O.1 ∙ ap Ok (payload_is O.0 (matched s (payload_of O.0) C.1))) in
      let B = body_sound s m.pattern m.body l.2 (continuing_inside p m.name a D.0 Γ) a D.0 C.0 b fits C.2 in
      subst (Takes Γ (made p (nodes.Continuation m)) a) B.0 (takes fits (output_fits T) (continuing_takes T S B.1 B.2))
  node_sound s (nodes.Gathered i) l Γ a b fits h =
      let M = ok_then (members_judged p (term_judged p) (collection_node p i) Γ a) _ h in
      let f = fitted s (Some (table_kind M.0.0 M.0.1)) M.2 in
      takes fits f.1 (subst (FormTakes Γ (made p (nodes.Gathered i)) a) (same_Some _ _ f.0) (gathered_takes (members_sound (collection_node p i) l Γ a M.0 M.1)))
  node_sound s (nodes.Releasing m) l Γ a b fits h =
      let M = ok_then (members_judged p (term_judged p) (collection_node p m.members) Γ a) _ h in
      let t = table_kind M.0.0 M.0.1 in
      let V = fits_then s t _ M.2 in
      let W = fits_then s (pair_kind a t) _ V.1 in
      let O = ok_then (term_judged p m.observer Γ (pair_kind a t)) _ W.1 in
      let C = ok_then (matching_at s (payload_of O.0)) _ O.2 in
      let S = part m.observer l.1 Γ (pair_kind a t) (event_kind C.0) W.0 (O.1 ∙ ap Ok (payload_is O.0 (matched s (payload_of O.0) C.1))) in
      let B = body_sound s m.pattern m.body l.2 (members_inside p m.name M.0.0 a M.0.1 Γ) a t C.0 b fits C.2 in
      subst (Takes Γ (made p (nodes.Releasing m)) a) B.0 (takes fits V.0 (releasing_takes (members_sound (collection_node p m.members) l.0 Γ a M.0 M.1) S B.1 B.2))
  node_sound s (nodes.Editing m) l Γ a b fits h =
      let K = ok_then (judged_beside s a) _ h in
      let M = ok_then (members_judged p (term_judged p) (collection_node p m.members) Γ K.0.0) _ K.2 in
      let E = ok_then (edit_judged p s m.pattern (members_judged p (term_judged p) (collection_node p m.edit)) K.0.0 M.0 K.0.1 (members_inside p m.name M.0.0 K.0.0 M.0.1 Γ)) _ M.2 in
      let f = fitted s (Some (table_kind M.0.0 M.0.1)) E.2 in
      let D = edit_sound s m.pattern (collection_node p m.edit) l.1 (members_inside p m.name M.0.0 K.0.0 M.0.1 Γ) K.0.0 M.0 K.0.1 E.1 in
      takes fits f.1 (subst₂ (FormTakes Γ (made p (nodes.Editing m))) (sym (beside_is s a K.1)) (same_Some _ _ f.0) (editing_takes (members_sound (collection_node p m.members) l.0 Γ K.0.0 M.0 M.1) D.0 D.1))

-- ## What is taken is judged

module _ (p : Program) (n : ℕ) (part : (j : TermId) → term_number j < n → (Δ : Context) (a b : Kind) → Takes Δ (tree p j) a b → term_judged p j Δ a ≡ Ok b) where
  same_types : (s : Spot) (t : Kind) → asked Mismatch s (same_kind t t) ≡ Ok tt
  same_types s t = holds Mismatch s (is_same t)

  members_complete : (c : CollExpr) → CollectionBelow n c → {Γ : Context} {k : KeyKind} {a b : Kind} → Collects Γ (collection_of p c) k a b → members_judged p (term_judged p) c Γ a ≡ Ok (k, b)
  members_complete (collections.Empty k t s) l collects_none = refl
  members_complete (collections.Used x i s) l {Γ} {a = a} (collects_used h) = go _ (ap (judged_collection i) (is_collection (program_name p x) Γ.bindings h)) (go _ (same_types s a) refl)
  members_complete (collections.Added' o c v t s) l {k = k} {a = a} {b = b} (collects_added C I T) =
      go _ (members_complete c l.0 C) (go _ (typed_judged (program_expressions p) _ v _ (typed_in p v I)) (go _ (part t l.1 _ _ _ T) (go _ (same_types s (kind_of_keys k)) (go _ (holds Mismatch s (ap₂ (λ c d. c && d) (test_fits a (input_fits T)) (is_same b))) refl))))
  members_complete (collections.Dropped' o c v s) l {k = k} (collects_dropped C I) = go _ (members_complete c l C) (go _ (typed_judged (program_expressions p) _ v _ (typed_in p v I)) (go _ (same_types s (kind_of_keys k)) refl))
  members_complete (collections.Kept' o c f s) l (collects_kept C F) = go _ (members_complete c l C) (go _ (takes_judged (program_expressions p) _ f s _ _ (taken_in p f F)) refl)
  members_complete (collections.Chosen' v o c r d s) l {k = k} {b = b} (collects_chosen I C D) =
      go _ (typed_judged (program_expressions p) _ v _ (typed_in p v I)) (go _ (members_complete c l.0 C) (go _ (members_complete d l.1 D) (go _ (same_types s (table_kind k b)) refl)))

  arguments_complete : (s : Spot) (vs : List Argument) → All (ArgumentBelow p n) vs → {Γ : Context} {qs : Bindings} → ArgumentsFit Γ (arguments_of p vs) qs → (length vs ≡ length qs) × (arguments_judged p (term_judged p) s Γ vs qs ≡ Ok true)
  arguments_complete s [] l no_argument_fits = (refl, refl)
  arguments_complete s (arguments.Value v ∷ vs) l (value_fits {t = t} I fit) =
      let rest = arguments_complete s vs (All-tail (ArgumentBelow p n) _ vs l) fit in
      (omega (arith, rest.0), go _ (go _ (typed_judged (program_expressions p) _ v _ (typed_in p v I)) (ap Ok (is_same t))) (go _ rest.1 refl))
  arguments_complete s (arguments.Process t ∷ vs) l (process_fits {a = a} {b = b} T fit) =
      let rest = arguments_complete s vs (All-tail (ArgumentBelow p n) _ vs l) fit in
      (omega (arith, rest.0), go _ (go _ (part t (All-head (ArgumentBelow p n) (arguments.Process t) vs l) _ _ _ T) (ap Ok (ap₂ (λ c d. c && d) (test_fits a (input_fits T)) (is_same b)))) (go _ rest.1 refl))
  arguments_complete s (arguments.Collection i ∷ vs) l (collection_fits {k = k} {b = b} C fit) =
      let rest = arguments_complete s vs (All-tail (ArgumentBelow p n) _ vs l) fit in
      (omega (arith, rest.0), go _ (go _ (members_complete (collection_node p i) (All-head (ArgumentBelow p n) (arguments.Collection i) vs l) C) (ap Ok (is_same (table_kind k b)))) (go _ rest.1 refl))

  body_complete : (s : Spot) (q : PatternId) (u : TermId) → term_number u < n → (Δ : Context) (a b c : Kind) → BindsInside (program_pattern p q) c Δ → Takes (inside_pattern (program_pattern p q) c Δ) (tree p u) a b → body_judged p s q (term_judged p u) a b c Δ ≡ Ok b
  body_complete s q u l Δ a b c B T = go _ (binds_binding s (stored_pattern (program_expressions p) q) B) (go _ (part u l _ _ _ T) (go _ (same_types s b) refl))

  switch_complete : (s : Spot) (m : Switch) (w : Switching) → TermPartsBelow p (nodes.Switching m) n → {Γ : Context} {a b : Kind} → FormTakes Γ (made p (nodes.Switching (record m { form = w }))) a b → switch_judged p (term_judged p) s m w Γ a ≡ Ok b
  switch_complete s m (Basic w) l {Γ} {a} {b} (switch_takes {c = c} F B G) = go _ (part m.source l.0 _ _ _ F) (body_complete s m.pattern m.body l.1 Γ a b c B G)
  switch_complete s m (Recurring w) l {Γ} {b = b} (recurring_takes {a = a} {c = c} F B G) = go _ (part m.source l.0 _ _ _ F) (body_complete s m.pattern m.body l.1 Γ a b c B G)

  node_complete : (s : Spot) (m : Node) → TermPartsBelow p m n → {Γ : Context} {a b : Kind} → FormTakes Γ (made p m) a b → Fits a → Fits b → node_judged p (term_judged p) s m Γ a ≡ Ok b
  node_complete s (nodes.Primitive q) l {Γ} (primitive_takes h) f g = primitive_complete (program_expressions p) s Γ q h
  node_complete s (nodes.Named (Process w) x i) l {Γ} {a} {b} (started_takes h) f g = go _ (ap (judged_process i) (is_process (program_name p x) Γ.bindings h)) (go _ (same_types s a) (fits_at s b g))
  node_complete s (nodes.Named Probe x i) l {a = a} (primitive_takes (probe_takes h)) f g = fits_at s a h
  node_complete s (nodes.Call x vs) l (call_takes {s = h} named fit) f g =
      let all = arguments_complete s (argument_nodes p vs) l fit in
      go _ (ap (found_or_broken UnknownName s) named) (go _ (holds Arity s (many_as _ _ all.0)) (go _ all.1 (go _ (same_types s h.input) (fits_at s h.output g))))
  node_complete s (nodes.Joined InSequence i j) l (sequence_takes F G) f g = go _ (part i l.0 _ _ _ F) (part j l.1 _ _ _ G)
  node_complete s (nodes.Joined InParallel i j) l (parallel_takes F G) f g = go _ (part i l.0 _ _ _ F) (go _ (part j l.1 _ _ _ G) (fits_at s _ g))
  node_complete s (nodes.Joined FannedOut i j) l (fan_takes F G) f g = go _ (part i l.0 _ _ _ F) (go _ (part j l.1 _ _ _ G) (fits_at s _ g))
  node_complete s (nodes.Sided First i) l (first_takes F) f g = go _ (part i l _ _ _ F) (fits_at s _ g)
  node_complete s (nodes.Sided Second i) l (second_takes F) f g = go _ (part i l _ _ _ F) (fits_at s _ g)
  node_complete s (nodes.Headed LoopPre v i) l {a = a} (loop_takes {c = c} I F) f g =
      go _ (typed_judged (program_expressions p) _ v _ I) (go _ (fits_at s (pair_kind a c) (input_fits F)) (go _ (part i l _ _ _ F) (go _ (same_types s c) refl)))
  node_complete s (nodes.Headed Replaced v i) l {a = a} (replaced_takes I F) f g = go _ (typed_judged (program_expressions p) _ v _ I) (go _ (part i l _ _ _ F) (go _ (same_types s a) refl))
  node_complete s (nodes.Headed Initialized v i) l {b = b} (initialized_takes I F) f g = go _ (typed_judged (program_expressions p) _ v _ I) (go _ (part i l _ _ _ F) (go _ (same_types s b) refl))
  node_complete s (nodes.Headed Followed v i) l {b = b} (followed_takes I F) f g = go _ (typed_judged (program_expressions p) _ v _ I) (go _ (part i l _ _ _ F) (go _ (same_types s b) refl))
  node_complete s (nodes.Transformed h i) l {a = a} (transformed_takes I F) f g = go _ (takes_judged (program_expressions p) _ h s _ _ I) (go _ (part i l _ _ _ F) (go _ (same_types s a) refl))
  node_complete s (nodes.Switching m) l h f g = switch_complete s m m.form l h
  node_complete s (nodes.Continuation m) l {Γ} {a} {b} (continuing_takes {c = c} F O B G) f g =
      go _ (part m.source l.0 _ _ _ F) (go _ (fits_at s (pair_kind a b) (input_fits O)) (go _ (part m.observer l.1 _ _ _ O) (body_complete s m.pattern m.body l.2 (continuing_inside p m.name a b Γ) a b c B G)))
  node_complete s (nodes.Gathered i) l (gathered_takes C) f g = go _ (members_complete (collection_node p i) l C) (fits_at s _ g)
  node_complete s (nodes.Releasing m) l {Γ} (releasing_takes {k = k} {a = a} {b = b} {c = c} C O B G) f g =
      go _ (members_complete (collection_node p m.members) l.0 C) (go _ (fits_at s (table_kind k b) g) (go _ (fits_at s (pair_kind a (table_kind k b)) (input_fits O)) (go _ (part m.observer l.1 _ _ _ O) (body_complete s m.pattern m.body l.2 (members_inside p m.name k a b Γ) a (table_kind k b) c B G))))
  node_complete s (nodes.Editing m) l (editing_takes {k = k} {b = b} C B E) f g =
      go _ (members_complete (collection_node p m.members) l.0 C) (go _ (go _ (binds_binding s (stored_pattern (program_expressions p) m.pattern) B) (go _ (members_complete (collection_node p m.edit) l.1 E) (go _ (same_types s (table_kind k b)) refl))) (fits_at s _ g))

-- ## Both say the same

judged_within : (p : Program) (fuel : ℕ) (t : TermId) → term_number t < fuel → (Γ : Context) (a b : Kind) → Fits a → term_judged p t Γ a ≡ Ok b → Takes Γ (tree p t) a b
judged_within p zero t l Γ a b fits h = absurd (omega arith)
judged_within p (suc fuel) t l Γ a b fits h =
    subst (λ u. Takes Γ u a b) (sym (tree_made p t (term_node_at p t) refl))
    (node_sound p (term_number t) (λ j k Δ c d. judged_within p fuel j (omega arith) Δ c d) (term_spot_at p t) (term_node_at p t) (node_below p t) Γ a b fits (sym (term_form p t Γ a) ∙ h))

taken_within : (p : Program) (fuel : ℕ) (t : TermId) → term_number t < fuel → {Γ : Context} {a b : Kind} → Takes Γ (tree p t) a b → term_judged p t Γ a ≡ Ok b
taken_within p zero t l h = absurd (omega arith)
taken_within p (suc fuel) t l {Γ} {a} {b} h =
    term_form p t Γ a
    ∙ node_complete p (term_number t) (λ j k Δ c d h. taken_within p fuel j (omega arith) h) (term_spot_at p t) (term_node_at p t) (node_below p t) (subst (λ u. FormTakes Γ u a b) (tree_made p t (term_node_at p t) refl) (form_of h)) (input_fits h) (output_fits h)

-- a number above those of a collection's terms
abbrev end : CollExpr → ℕ
end (collections.Empty k t s) = 0
end (collections.Used x i s) = 0
end (collections.Added' o c v t s) = suc (end c + term_number t)
end (collections.Dropped' o c v s) = end c
end (collections.Kept' o c f s) = end c
end (collections.Chosen' v o c r d s) = end c + end d

ends : (c : CollExpr) (n : ℕ) → end c ≤ n → CollectionBelow n c
ends (collections.Empty k t s) n l = tt
ends (collections.Used x i s) n l = tt
ends (collections.Added' o c v t s) n l = (ends c n (omega arith), omega arith)
ends (collections.Dropped' o c v s) n l = ends c n l
ends (collections.Kept' o c f s) n l = ends c n l
ends (collections.Chosen' v o c r d s) n l = (ends c n (omega arith), ends d n (omega arith))

module _ (p : Program) where
  pub judged_output : (t : TermId) (Γ : Context) (a b : Kind) → Fits a → term_judged p t Γ a ≡ Ok b → Takes Γ (tree p t) a b
  judged_output t = judged_within p (suc (term_number t)) t (omega arith)

  pub output_judged : (t : TermId) {Γ : Context} {a b : Kind} → Takes Γ (tree p t) a b → term_judged p t Γ a ≡ Ok b
  output_judged t = taken_within p (suc (term_number t)) t (omega arith)

  pub judged_members : (c : CollExpr) (Γ : Context) (a : Kind) (m : KeyKind × Kind) → members_judged p (term_judged p) c Γ a ≡ Ok m → Collects Γ (collection_of p c) m.0 a m.1
  judged_members c = members_sound p (end c) (λ j l. judged_output j) c (ends c (end c) (omega arith))

  pub members_are_judged : (c : CollExpr) {Γ : Context} {k : KeyKind} {a b : Kind} → Collects Γ (collection_of p c) k a b → members_judged p (term_judged p) c Γ a ≡ Ok (k, b)
  members_are_judged c = members_complete p (end c) (λ j l Δ c d h. output_judged j h) c (ends c (end c) (omega arith))

-- ## What code answers

pub answers_term : (p : Program) (Γ : Context) (t : TermId) (a : Kind) (r : Result Kind Refusal) → Fits a → GivesFound r (term_judged p t Γ a) → AnswersTerm p Γ t a r
answers_term p Γ t a (Ok b) fits h = judged_output p t Γ a b fits h
answers_term p Γ t a (Err e) fits h = stops_so e (term_judged p t Γ a) (λ b e. record { first = e }) h

pub answers_members : (p : Program) (Γ : Context) (c : CollExpr) (a : Kind) (r : Result MemberTypes Refusal) → GivesMembers r (members_judged p (term_judged p) c Γ a) → AnswersMembers p Γ c a r
answers_members p Γ c a (Ok m) h = judged_members p c Γ a (key_kind_of m.keys, m.output) h
answers_members p Γ c a (Err e) h = stops_so e (members_judged p (term_judged p) c Γ a) (λ b e. record { first = e }) h

-- what a term takes inputs to, or the first rule that it breaks
pub term_answered : (p : Program) (Γ : Context) (t : TermId) (a : Kind) → Fits a → ((b : Kind) × Takes Γ (tree p t) a b) ⊎ ((e : Breach) × TermBreaks p Γ t a e)
term_answered p Γ t a fits = each (term_judged p t Γ a) refl
  where
    each : (r : Result Kind Breach) → term_judged p t Γ a ≡ r → ((b : Kind) × Takes Γ (tree p t) a b) ⊎ ((e : Breach) × TermBreaks p Γ t a e)
    each (Ok b) h = inl (b, judged_output p t Γ a b fits h)
    each (Err e) h = inr (e, record { first = h })

-- ## Templates

-- types that are different are told apart
pub told_apart : (t u : Kind) → t ≢ u → same_kind t u ≡ false
told_apart t u other = each (same_kind t u) refl
  where
    each : (b : Bool) → same_kind t u ≡ b → b ≡ false
    each true h = absurd (other (same_is t u h))
    each false h = refl

module _ (fs : TypesByName) (p : Program) (h : Header) where
  abbrev Around : Context
  Around = template_context fs (parameters_of h.parameters) (templates_of p)

  pub template_within : {e : Breach} → term_judged p h.body Around h.input ≡ Err e → template_judged fs p h ≡ Err e
  unfolding template_judged
  template_within k = stop _ k

  pub header_apart : {b : Kind} → Takes Around (tree p h.body) h.input b → b ≢ h.output → template_judged fs p h ≡ Err (breach_of Mismatch (term_spot_at p h.body))
  unfolding template_judged
  header_apart {b} T other = go _ (output_judged p h.body T) (stop _ (fails Mismatch (term_spot_at p h.body) (told_apart b h.output other)))

  template_typed : IsTyped fs (templates_of p) (term_template p h) → template_judged fs p h ≡ Ok h.output
  unfolding template_judged
  template_typed t = go _ (output_judged p h.body t.body) (go _ (holds Mismatch (term_spot_at p h.body) (is_same h.output)) refl)

  pub template_or : Fits h.input → All (λ (q : Name × NameKind). ParameterFits q.1) (parameters_of h.parameters) → IsTyped fs (templates_of p) (term_template p h) ⊎ ((e : Breach) × TemplateBreaks fs p h e)
  template_or fits all = elim (term_answered p Around h.body h.input fits) [
    | inr r ↦ inr (r.0, record { first = template_within r.1.first })
    | inl t ↦ each t.0 t.1 (same_kind t.0 h.output) refl
  ]
    where
      each : (b : Kind) → Takes Around (tree p h.body) h.input b → (c : Bool) → same_kind b h.output ≡ c → IsTyped fs (templates_of p) (term_template p h) ⊎ ((e : Breach) × TemplateBreaks fs p h e)
      each b T true e = inl (record { parameters = all; body = subst (Takes Around (tree p h.body) h.input) (same_is b h.output e) T })
      each b T false e = inr (_, record { first = header_apart T (λ same. let yes = is_same h.output in let no = ap (λ b. same_kind b h.output) (sym same) ∙ e in absurd cc) })

  pub template_refused : (t : TermId) (a : Kind) (e : Refusal) → t ≡ h.body → a ≡ h.input → OrMemory (TermBreaks p Around t a) e → OrMemory (TemplateBreaks fs p h) e
  template_refused t a e is from = or_memory (λ f k. record { first = template_within (subst₂ (λ t a. term_judged p t Around a ≡ Err f) is from k.first) })

  pub header_refused : (t : TermId) (s : Spot) (a b c : Kind) (e : Refusal) → t ≡ h.body → s ≡ term_spot_at p t → a ≡ h.input → c ≡ h.output → Takes Around (tree p t) a b → (b ≡ c → ⊥) → e ≡ broken Mismatch s → OrMemory (TemplateBreaks fs p h) e
  header_refused t s a b c e is at from to T other wrong =
      breaks_at Mismatch wrong (at ∙ ap (term_spot_at p) is) (record { first = header_apart (subst₂ (λ t a. Takes Around (tree p t) a b) is from T) (λ same. other (same ∙ sym to)) })

-- a template that breaks a rule isn't typed
pub template_untyped : {fs : TypesByName} {p : Program} {h : Header} {e : Breach} → TemplateBreaks fs p h e → IsTyped fs (templates_of p) (term_template p h) → ⊥
template_untyped {fs} {p} {h} k t = let is = template_typed fs p h t in let no = k.first in absurd cc
