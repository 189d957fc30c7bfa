-- Where the functions that are called have the same types elsewhere, what was accepted is accepted there.
use Rattle.std.proofs.Common.{◌≡◌, ℕ, zero, suc, ◌+◌, ◌<◌, ◌≤◌, List, [], ◌∷◌, All, Option, Some, None, slice_get, inl, inr, refl, sym, ap, ◌∙◌, subst, arith}
use Rattle.std.specs.Prelude.{pos}
use Rattle.std.specs.Option.{option_map}
use Rattle.std.proofs.lemmas.Bool.{cases_lt}
use Rattle.std.proofs.lemmas.List.{get_or_past}
use Rattle.std.proofs.lemmas.List.Elements.{All-head, All-tail}
use Rattle.std.proofs.lemmas.Option.{slice_get-map, same_Some, none-some}
use Rattle.sf_value.specs.Values.{KeyKind, Name, Kind}
use Rattle.sf_func.specs.Registries.{TypesByName, types_named}
use Rattle.sf_expr.specs.declared.exprs.ExprId.{ExprId}
use Rattle.sf_expr.specs.declared.exprs.ExprNode.{ExprNode}
use Rattle.sf_expr.specs.declared.exprs.ExprNode.TheVariants as nodes
use Rattle.sf_expr.specs.declared.exprs.Exprs.{Exprs}
use Rattle.sf_arena.specs.declared.entry.Entry.{Entry}
use Rattle.sf_arena.specs.Arenas.{entries_of}
use Rattle.sf_expr.specs.Entries.{zero_entry}
use Rattle.sf_expr.specs.Arena.{id_number, arena_count, node_at, entry_of, expression, body_id, PartsBelow, Builds, builds_unit, builds_truth, builds_constant, builds_int, builds_name, builds_pair, builds_applied, builds_operation, builds_conditional, builds_mapped, builds_folded, builds_called}
use Rattle.sf_expr.specs.Expressions.{Pattern, Expression, variable, literal, paired, applied, operation, conditional, mapped, folded, called, Function, function}
use Rattle.sf_expr.specs.Typing.{Names, functions_of, names_and_functions, call_kind, AddsNames, adds_nothing, adds_name, adds_both, Binds, HasType, variable_has, literal_has, pair_has, applied_has, operation_has, conditional_has, mapped_has, folded_has, called_has, FunctionTakes, function_takes}
use Rattle.sf_expr.proofs.Bound.{type_with, functions_with, binds_with}
use Rattle.sf_expr.proofs.Entered.{node_builds, parts_below}
use Rattle.sf_term.proofs.Extended.{expression_in, function_at_in}
use Rattle.sf_term.proofs.Extended
use Rattle.sf_term.specs.declared.form.Naming.TheVariants.{Process, Probe}
use Rattle.sf_term.specs.declared.node.TermId.{TermId}
use Rattle.sf_term.specs.declared.node.Argument.{Argument}
use Rattle.sf_term.specs.declared.node.Argument.TheVariants as arguments
use Rattle.sf_term.specs.declared.node.Primitive as primitive_nodes
use Rattle.sf_term.specs.declared.node.Primitive.TheVariants as primitives
use Rattle.sf_term.specs.declared.node.Node.{Node}
use Rattle.sf_term.specs.declared.node.Node.TheVariants as terms
use Rattle.sf_term.specs.declared.collection.CollExpr.{CollExpr}
use Rattle.sf_term.specs.declared.collection.CollExpr.TheVariants as collections
use Rattle.sf_term.specs.declared.program.Program.{Program}
use Rattle.sf_term.specs.Headers.{Header}
use Rattle.sf_term.specs.Trees.{Primitive, bare, probe, never, with_value, timed, selected, arrow, accumulated, fused, Term, primitive, Reference, reference, started, call, Arguments, no_arguments, value_argument, process_argument, collection_argument, closed_argument, joined, sided, headed, transformed, switching, continuing, gathered, releasing, editing, staged, Collection, without_members, used, added, dropped, kept, chosen, Template, Templates}
use Rattle.sf_term.specs.Arena.{term_number, tree, term_node_at, program_entry, program_expressions, program_expression, argument_nodes, arguments_of, headers_of, term_template, templates_of, collection_node, collection_of, ArgumentBelow, CollectionBelow, TermPartsBelow}
use Rattle.sf_mean.specs.Contexts.{NameKind, value, process, collection, Bindings, parameters_inside, outer_context, bindings_inside, with_name_of, bound_values}
use Rattle.sf_mean.specs.Typing.{PrimitiveTakes, bare_takes, probe_takes, never_takes, value_takes, timed_takes, selected_takes, accumulated_takes, arrow_takes, fused_takes, Takes, takes, FormTakes, primitive_takes, started_takes, call_takes, ArgumentsFit, no_argument_fits, value_fits, process_fits, collection_fits, closed_fits, sequence_takes, parallel_takes, fan_takes, first_takes, second_takes, loop_takes, initialized_takes, replaced_takes, followed_takes, transformed_takes, switch_takes, recurring_takes, continuing_takes, gathered_takes, releasing_takes, editing_takes, stages_take, Collects, collects_none, collects_used, collects_added, collects_dropped, collects_kept, collects_chosen, Accepted}
use Rattle.sf_check.specs.Answering.{primitive_in}
use Rattle.sf_check.specs.Calling.{IsCalledAlike, AreCalledAlike}
use Rattle.sf_check.proofs.Made.{made, tree_made}
use Rattle.sf_check.proofs.Templates.{lt_or_eq}

-- ## Trees

module _ (fs gs : TypesByName) where
  -- each function that an expression calls has the same types in both
  abbrev pub Alike : Expression → Type 0
  Alike (variable x) = Unit {0}
  Alike (literal l) = Unit {0}
  Alike (paired i j) = Alike i × Alike j
  Alike (applied o i) = Alike i
  Alike (operation i op j) = Alike i × Alike j
  Alike (conditional i j k) = Alike i × Alike j × Alike k
  Alike (mapped i m p j) = Alike i × Alike j
  Alike (folded i o j p k) = Alike i × Alike j × Alike k
  Alike (called g i) = Alike i × (types_named g fs ≡ types_named g gs)

  abbrev pub FunctionAlike : Function → Type 0
  FunctionAlike (function p i) = Alike i

  -- programs have no functions made into one and no pipelines
  abbrev pub PrimitiveAlike : Primitive → Type 0
  PrimitiveAlike (bare k) = Unit {0}
  PrimitiveAlike (probe k) = Unit {0}
  PrimitiveAlike (never t) = Unit {0}
  PrimitiveAlike (with_value k e) = Alike e
  PrimitiveAlike (arrow f) = FunctionAlike f
  PrimitiveAlike (timed k q e) = Alike e
  PrimitiveAlike (selected k n) = Unit {0}
  PrimitiveAlike (accumulated k e f) = Alike e × FunctionAlike f
  PrimitiveAlike (fused f) = ⊥

  abbrev mutual
    pub TermAlike : Term → Type 0
    TermAlike (primitive p) = PrimitiveAlike p
    TermAlike (reference r) = ReferenceAlike r
    TermAlike (joined j f g) = TermAlike f × TermAlike g
    TermAlike (sided d t) = TermAlike t
    TermAlike (headed h e t) = Alike e × TermAlike t
    TermAlike (transformed f t) = FunctionAlike f × TermAlike t
    TermAlike (switching w t p u) = TermAlike t × TermAlike u
    TermAlike (continuing w t q k p u) = TermAlike t × TermAlike q × TermAlike u
    TermAlike (gathered i) = CollectionAlike i
    TermAlike (releasing w i q k p u) = CollectionAlike i × TermAlike q × TermAlike u
    TermAlike (editing w i k p u) = CollectionAlike i × CollectionAlike u
    TermAlike (staged x f g) = ⊥

    pub CollectionAlike : Collection → Type 0
    CollectionAlike (without_members k t) = Unit {0}
    CollectionAlike (used x) = Unit {0}
    CollectionAlike (added i j t) = CollectionAlike i × Alike j × TermAlike t
    CollectionAlike (dropped i j) = CollectionAlike i × Alike j
    CollectionAlike (kept i f) = CollectionAlike i × FunctionAlike f
    CollectionAlike (chosen j a b) = Alike j × CollectionAlike a × CollectionAlike b

    pub ReferenceAlike : Reference → Type 0
    ReferenceAlike (started w k) = Unit {0}
    ReferenceAlike (call g vs) = ArgumentsAlike vs

    pub ArgumentsAlike : Arguments → Type 0
    ArgumentsAlike no_arguments = Unit {0}
    ArgumentsAlike (value_argument e vs) = Alike e × ArgumentsAlike vs
    ArgumentsAlike (process_argument t vs) = TermAlike t × ArgumentsAlike vs
    ArgumentsAlike (collection_argument i vs) = CollectionAlike i × ArgumentsAlike vs
    ArgumentsAlike (closed_argument t vs) = ⊥

  adds_functions : {p : Pattern} {t : Kind} {R S : Names} → AddsNames p t R S → functions_of S ≡ functions_of R
  adds_functions adds_nothing = refl
  adds_functions adds_name = refl
  adds_functions (adds_both a b) = adds_functions b ∙ adds_functions a

  typed_over : {R : Names} {e : Expression} {t : Kind} → functions_of R ≡ fs → Alike e → HasType R e t → HasType (names_and_functions gs R) e t
  typed_over {R = R} q k (variable_has {x = x} h f) = variable_has (type_with gs x R ∙ h) f
  typed_over q k (literal_has h f) = literal_has h f
  typed_over q k (pair_has a b f) = pair_has (typed_over q k.0 a) (typed_over q k.1 b) f
  typed_over q k (applied_has a e f) = applied_has (typed_over q k a) e f
  typed_over q k (operation_has a b e f) = operation_has (typed_over q k.0 a) (typed_over q k.1 b) e f
  typed_over q k (conditional_has a b c e f) = conditional_has (typed_over q k.0 a) (typed_over q k.1 b) (typed_over q k.2 c) e f
  typed_over q k (mapped_has a m f B b e g) = mapped_has (typed_over q k.0 a) m f (binds_with gs B) (typed_over (adds_functions B.adds ∙ q) k.1 b) e g
  typed_over q k (folded_has a b m f B c e g) = folded_has (typed_over q k.0 a) (typed_over q k.1 b) m f (binds_with gs B) (typed_over (adds_functions B.adds ∙ q) k.2 c) e g
  typed_over {R = R} q k (called_has {g = g} {t = t} a e f) =
      let same : types_named g (functions_of (names_and_functions gs R)) ≡ types_named g (functions_of R) =
      ap (types_named g) (functions_with gs R) ∙ sym k.1 ∙ ap (types_named g) (sym q) in
      called_has (typed_over q k.0 a) (ap (λ o. call_kind o t) same ∙ e) f

  function_over : {R : Names} {f : Function} {a b : Kind} → functions_of R ≡ fs → FunctionAlike f → FunctionTakes R f a b → FunctionTakes (names_and_functions gs R) f a b
  function_over q k (function_takes fits B h) = function_takes fits (binds_with gs B) (typed_over (adds_functions B.adds ∙ q) k h)

  -- names that are bound have the same types with the other functions
  functions_beside : (x : Name) (k : NameKind) (R : Names) → functions_of (with_name_of x k R) ≡ functions_of R
  functions_beside x (value t) R = refl
  functions_beside x (process a b) R = refl
  functions_beside x (collection k a b) R = refl

  functions_around : (bs : Bindings) → functions_of (bound_values fs bs) ≡ fs
  functions_around [] = refl
  functions_around (b ∷ bs) = functions_beside b.0 b.1 (bound_values fs bs) ∙ functions_around bs

  types_beside : (x : Name) (k : NameKind) (R : Names) → names_and_functions gs (with_name_of x k R) ≡ with_name_of x k (names_and_functions gs R)
  types_beside x (value t) R = refl
  types_beside x (process a b) R = refl
  types_beside x (collection k a b) R = refl

  types_around : (bs : Bindings) → names_and_functions gs (bound_values fs bs) ≡ bound_values gs bs
  types_around [] = refl
  types_around (b ∷ bs) = types_beside b.0 b.1 (bound_values fs bs) ∙ ap (with_name_of b.0 b.1) (types_around bs)

  module _ (bs : Bindings) where
    typed_around : {e : Expression} {t : Kind} → Alike e → HasType (bound_values fs bs) e t → HasType (bound_values gs bs) e t
    typed_around {e} {t} k h = subst (λ R. HasType R e t) (types_around bs) (typed_over (functions_around bs) k h)

    function_around : {f : Function} {a b : Kind} → FunctionAlike f → FunctionTakes (bound_values fs bs) f a b → FunctionTakes (bound_values gs bs) f a b
    function_around {f} {a} {b} k h = subst (λ R. FunctionTakes R f a b) (types_around bs) (function_over (functions_around bs) k h)

    bound_around : {p : Pattern} {t : Kind} → Binds p t (bound_values fs bs) (bound_values fs (bindings_inside p t bs)) → Binds p t (bound_values gs bs) (bound_values gs (bindings_inside p t bs))
    bound_around {p} {t} h =
        let S = bound_values gs (bindings_inside p t bs) in
        subst (λ R. Binds p t R S) (types_around bs) (subst (Binds p t (names_and_functions gs (bound_values fs bs))) (types_around (bindings_inside p t bs)) (binds_with gs h))

  module _ (ts : Templates) where
    primitive_over : (bs : Bindings) {p : Primitive} {a b : Kind} → PrimitiveAlike p → PrimitiveTakes (outer_context fs bs ts) p a b → PrimitiveTakes (outer_context gs bs ts) p a b
    primitive_over bs k (bare_takes h f) = bare_takes h f
    primitive_over bs k (probe_takes f) = probe_takes f
    primitive_over bs k (never_takes f) = never_takes f
    primitive_over bs k (value_takes v h f) = value_takes (typed_around bs k v) h f
    primitive_over bs k (timed_takes v m w h f) = timed_takes (typed_around bs k v) m w h f
    primitive_over bs k (selected_takes h w f) = selected_takes h w f
    primitive_over bs k (accumulated_takes v h q e f) = accumulated_takes (typed_around bs k.0 v) h (function_around bs k.1 q) e f
    primitive_over bs k (arrow_takes h) = arrow_takes (function_around bs k h)
    primitive_over bs k (fused_takes h f) = absurd k

    mutual
      pub takes_over : (bs : Bindings) {t : Term} {a b : Kind} → TermAlike t → Takes (outer_context fs bs ts) t a b → Takes (outer_context gs bs ts) t a b
      takes_over bs k (takes p q F) = takes p q (form_over bs k F)

      form_over : (bs : Bindings) {t : Term} {a b : Kind} → TermAlike t → FormTakes (outer_context fs bs ts) t a b → FormTakes (outer_context gs bs ts) t a b
      form_over bs k (primitive_takes T) = primitive_takes (primitive_over bs k T)
      form_over bs k (started_takes h) = started_takes h
      form_over bs k (call_takes h fit) = call_takes h (arguments_over bs k fit)
      form_over bs k (sequence_takes f g) = sequence_takes (takes_over bs k.0 f) (takes_over bs k.1 g)
      form_over bs k (parallel_takes f g) = parallel_takes (takes_over bs k.0 f) (takes_over bs k.1 g)
      form_over bs k (fan_takes f g) = fan_takes (takes_over bs k.0 f) (takes_over bs k.1 g)
      form_over bs k (first_takes t) = first_takes (takes_over bs k t)
      form_over bs k (second_takes t) = second_takes (takes_over bs k t)
      form_over bs k (loop_takes e t) = loop_takes (typed_around bs k.0 e) (takes_over bs k.1 t)
      form_over bs k (initialized_takes e t) = initialized_takes (typed_around bs k.0 e) (takes_over bs k.1 t)
      form_over bs k (replaced_takes e t) = replaced_takes (typed_around bs k.0 e) (takes_over bs k.1 t)
      form_over bs k (followed_takes e t) = followed_takes (typed_around bs k.0 e) (takes_over bs k.1 t)
      form_over bs k (transformed_takes f t) = transformed_takes (function_around bs k.0 f) (takes_over bs k.1 t)
      form_over bs k (switch_takes {p = p} {c = c} t h u) = switch_takes (takes_over bs k.0 t) (bound_around bs h) (takes_over (bindings_inside p c bs) k.1 u)
      form_over bs k (recurring_takes {p = p} {c = c} t h u) = recurring_takes (takes_over bs k.0 t) (bound_around bs h) (takes_over (bindings_inside p c bs) k.1 u)
      form_over bs k (continuing_takes {k = x} {p = p} {a = a} {b = b} {c = c} t q h u) =
          let inner : Bindings = (x, process a b) ∷ bs in
          continuing_takes (takes_over bs k.0 t) (takes_over bs k.1 q) (bound_around inner h) (takes_over (bindings_inside p c inner) k.2 u)
      form_over bs k (gathered_takes i) = gathered_takes (collects_over bs k i)
      form_over bs k (releasing_takes {x = x} {p = p} {k = l} {a = a} {b = b} {c = c} i q h u) =
          let inner : Bindings = (x, collection l a b) ∷ bs in
          releasing_takes (collects_over bs k.0 i) (takes_over bs k.1 q) (bound_around inner h) (takes_over (bindings_inside p c inner) k.2 u)
      form_over bs k (editing_takes {x = x} {p = p} {k = l} {a = a} {b = b} {c = c} i h u) =
          let inner : Bindings = (x, collection l a b) ∷ bs in
          editing_takes (collects_over bs k.0 i) (bound_around inner h) (collects_over (bindings_inside p c inner) k.1 u)
      form_over bs k (stages_take f g) = absurd k

      collects_over : (bs : Bindings) {i : Collection} {k : KeyKind} {a b : Kind} → CollectionAlike i → Collects (outer_context fs bs ts) i k a b → Collects (outer_context gs bs ts) i k a b
      collects_over bs k collects_none = collects_none
      collects_over bs k (collects_used h) = collects_used h
      collects_over bs k (collects_added i j t) = collects_added (collects_over bs k.0 i) (typed_around bs k.1 j) (takes_over bs k.2 t)
      collects_over bs k (collects_dropped i j) = collects_dropped (collects_over bs k.0 i) (typed_around bs k.1 j)
      collects_over bs k (collects_kept i f) = collects_kept (collects_over bs k.0 i) (function_around bs k.1 f)
      collects_over bs k (collects_chosen j a b) = collects_chosen (typed_around bs k.0 j) (collects_over bs k.1 a) (collects_over bs k.2 b)

      arguments_over : (bs : Bindings) {vs : Arguments} {qs : Bindings} → ArgumentsAlike vs → ArgumentsFit (outer_context fs bs ts) vs qs → ArgumentsFit (outer_context gs bs ts) vs qs
      arguments_over bs k no_argument_fits = no_argument_fits
      arguments_over bs k (value_fits h rest) = value_fits (typed_around bs k.0 h) (arguments_over bs k.1 rest)
      arguments_over bs k (process_fits h rest) = process_fits (takes_over bs k.0 h) (arguments_over bs k.1 rest)
      arguments_over bs k (collection_fits i rest) = collection_fits (collects_over bs k.0 i) (arguments_over bs k.1 rest)
      arguments_over bs k (closed_fits h rest) = absurd k

  -- ## Arenas of expressions

  module _ (x : Exprs) (all : AreCalledAlike x fs gs) where
    built : {n : ExprNode} {u : Expression} (k : ℕ) → Builds x n u → IsCalledAlike x fs gs n → PartsBelow n k → ((a : ExprId) → id_number a < k → Alike (expression x a)) → Alike u
    built k builds_unit h b parts = tt
    built k builds_truth h b parts = tt
    built k builds_constant h b parts = tt
    built k builds_int h b parts = tt
    built k builds_name h b parts = tt
    built k (builds_pair {a = a} {b = c}) h b parts = (parts a b.0, parts c b.1)
    built k (builds_applied {a = a}) h b parts = parts a b
    built k (builds_operation {a = a} {b = c}) h b parts = (parts a b.0, parts c b.1)
    built k (builds_conditional {a = a} {b = c} {c = d}) h b parts = (parts a b.0, parts c b.1, parts d b.2)
    built k (builds_mapped {n = n}) h b parts = (parts n.part b.0, parts n.body b.1)
    built k (builds_folded {n = n}) h b parts = (parts n.first b.0, parts n.second b.1, parts n.body b.2)
    built k (builds_called {g = g} {s = s} {a = a}) h b parts = (parts a b, h g s a refl)

    expression_parts : (i : ExprId) → PartsBelow (node_at x i) (id_number i)
    unfolding node_at entry_of
    expression_parts i = parts_below x i

    alike_within : (fuel : ℕ) (i : ExprId) → id_number i < fuel → Alike (expression x i)
    alike_within zero i h = absurd (omega arith)
    alike_within (suc fuel) i h = built (id_number i) (node_builds x i _ refl) (all i) (expression_parts i) (λ a k. alike_within fuel a (omega arith))

    pub expression_alike : (i : ExprId) → Alike (expression x i)
    expression_alike i = alike_within (suc (id_number i)) i (omega arith)

    pub node_alike : (q : primitive_nodes.Primitive) → PrimitiveAlike (primitive_in x q)
    node_alike (primitives.Bare k) = tt
    node_alike (primitives.Never n) = tt
    node_alike (primitives.WithValue k e) = expression_alike e
    node_alike (primitives.Arrow f) = expression_alike (body_id x f)
    node_alike (primitives.Timed k q e) = expression_alike e
    node_alike (primitives.Selected k n) = tt
    node_alike (primitives.Accumulated k e f) = (expression_alike e, expression_alike (body_id x f))

  -- ## Programs

  module _ (p : Program) (all : AreCalledAlike (program_expressions p) fs gs) where
    expression_in_alike : (e : ExprId) → Alike (program_expression p e)
    expression_in_alike e = subst Alike (expression_in p e) (expression_alike (program_expressions p) all e)

    collection_alike : (c : CollExpr) (k : ℕ) → CollectionBelow k c → ((j : TermId) → term_number j < k → TermAlike (tree p j)) → CollectionAlike (collection_of p c)
    collection_alike (collections.Empty l t s) k b parts = tt
    collection_alike (collections.Used x r s) k b parts = tt
    collection_alike (collections.Added' o c e t s) k b parts = (collection_alike c k b.0 parts, expression_in_alike e, parts t b.1)
    collection_alike (collections.Dropped' o c e s) k b parts = (collection_alike c k b parts, expression_in_alike e)
    collection_alike (collections.Kept' o c f s) k b parts = (collection_alike c k b parts, subst FunctionAlike (function_at_in p f) (expression_alike (program_expressions p) all (body_id (program_expressions p) f)))
    collection_alike (collections.Chosen' e o c r d s) k b parts = (expression_in_alike e, collection_alike c k b.0 parts, collection_alike d k b.1 parts)

    arguments_alike : (vs : List Argument) (k : ℕ) → All (ArgumentBelow p k) vs → ((j : TermId) → term_number j < k → TermAlike (tree p j)) → ArgumentsAlike (arguments_of p vs)
    arguments_alike [] k b parts = tt
    arguments_alike (arguments.Value e ∷ vs) k b parts = (expression_in_alike e, arguments_alike vs k (All-tail (ArgumentBelow p k) (arguments.Value e) vs b) parts)
    arguments_alike (arguments.Process t ∷ vs) k b parts = (parts t (All-head (ArgumentBelow p k) (arguments.Process t) vs b), arguments_alike vs k (All-tail (ArgumentBelow p k) (arguments.Process t) vs b) parts)
    arguments_alike (arguments.Collection i ∷ vs) k b parts = (collection_alike (collection_node p i) k (All-head (ArgumentBelow p k) (arguments.Collection i) vs b) parts, arguments_alike vs k (All-tail (ArgumentBelow p k) (arguments.Collection i) vs b) parts)

    made_alike : (n : Node) (k : ℕ) → TermPartsBelow p n k → ((j : TermId) → term_number j < k → TermAlike (tree p j)) → TermAlike (made p n)
    made_alike (terms.Primitive q) k b parts = node_alike (program_expressions p) all q
    made_alike (terms.Named (Process w) x s) k b parts = tt
    made_alike (terms.Named Probe x s) k b parts = tt
    made_alike (terms.Call x vs) k b parts = arguments_alike (argument_nodes p vs) k b parts
    made_alike (terms.Joined j f g) k b parts = (parts f b.0, parts g b.1)
    made_alike (terms.Sided d f) k b parts = parts f b
    made_alike (terms.Headed h v f) k b parts = (expression_alike (program_expressions p) all v, parts f b)
    made_alike (terms.Transformed g f) k b parts = (expression_alike (program_expressions p) all (body_id (program_expressions p) g), parts f b)
    made_alike (terms.Switching n) k b parts = (parts n.source b.0, parts n.body b.1)
    made_alike (terms.Continuation n) k b parts = (parts n.source b.0, parts n.observer b.1, parts n.body b.2)
    made_alike (terms.Gathered i) k b parts = collection_alike (collection_node p i) k b parts
    made_alike (terms.Releasing n) k b parts = (collection_alike (collection_node p n.members) k b.0 parts, parts n.observer b.1, parts n.body b.2)
    made_alike (terms.Editing n) k b parts = (collection_alike (collection_node p n.members) k b.0 parts, collection_alike (collection_node p n.edit) k b.1 parts)

    term_parts : (t : TermId) → TermPartsBelow p (term_node_at p t) (term_number t)
    unfolding term_node_at program_entry
    term_parts t = Extended.parts_below p t

    tree_within : (fuel : ℕ) (t : TermId) → term_number t < fuel → TermAlike (tree p t)
    tree_within zero t h = absurd (omega arith)
    tree_within (suc fuel) t h = subst TermAlike (sym (tree_made p t _ refl)) (made_alike (term_node_at p t) (term_number t) (term_parts t) (λ j k. tree_within fuel j (omega arith)))

    tree_alike : (t : TermId) → TermAlike (tree p t)
    tree_alike t = tree_within (suc (term_number t)) t (omega arith)

    template_alike : (i : ℕ) (t : Template) → slice_get (templates_of p) i ≡ Some t → TermAlike t.body
    template_alike i t at = each (slice_get (headers_of p) i) refl
      where
        each : (o : Option Header) → slice_get (headers_of p) i ≡ o → TermAlike t.body
        each None e = absurd (none-some t (ap (option_map (term_template p)) (sym e) ∙ sym (slice_get-map (term_template p) (headers_of p) i) ∙ at))
        each (Some h) e =
            let same : term_template p h ≡ t = same_Some _ _ (ap (option_map (term_template p)) (sym e) ∙ sym (slice_get-map (term_template p) (headers_of p) i) ∙ at) in
            subst (λ (t : Template). TermAlike t.body) same (tree_alike h.body)

    pub accepted_over : Accepted fs (templates_of p) → Accepted gs (templates_of p)
    accepted_over h = record {
      different = h.different;
      different_parameters = h.different_parameters;
      typed = λ i t at.
          let typed = h.typed i t at in
          record { parameters = typed.parameters; body = takes_over (templates_of p) (parameters_inside t.parameters []) (template_alike i t at) typed.body };
      endless = h.endless;
      has_main = h.has_main;
    }

-- ## The loop over an arena

same_id : (i j : ExprId) → id_number i ≡ id_number j → i ≡ j
same_id i j e = (λ k. record { 0 = e k })

-- past the end nothing is called
past_alike : (x : Exprs) (fs gs : TypesByName) (i : ExprId) → arena_count x ≤ id_number i → IsCalledAlike x fs gs (node_at x i)
unfolding arena_count node_at
past_alike x fs gs i h g s a e =
    let zero : nodes.Int (pos 0) ≡ nodes.Called g s a = ap (λ (n : Entry ExprNode). n.node) (sym (get_or_past (entries_of x.arena) i.0 zero_entry h)) ∙ e in
    absurd cc

module _ (x : Exprs) (fs gs : TypesByName) (n : ℕ) (below : (i : ExprId) → id_number i < n → IsCalledAlike x fs gs (node_at x i)) where
  pub one_more_alike : (j : ExprId) → id_number j ≡ n → IsCalledAlike x fs gs (node_at x j) → (i : ExprId) → id_number i < n + 1 → IsCalledAlike x fs gs (node_at x i)
  one_more_alike j at h i k = elim (lt_or_eq (id_number i) n k) [
    | inl before ↦ below i before
    | inr here ↦ subst (λ (i : ExprId). IsCalledAlike x fs gs (node_at x i)) (sym (same_id i j (here ∙ sym at))) h
  ]

  pub all_alike : arena_count x ≤ n → AreCalledAlike x fs gs
  all_alike most i = elim (cases_lt (id_number i) n) [ inl k ↦ below i k | inr k ↦ past_alike x fs gs i (omega (arith, k, most)) ]
