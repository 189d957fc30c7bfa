-- Plans that show the terms of a program.
use Rattle.std.proofs.Common.{◌≡◌, ℕ, ◌+◌, ◌<◌, ◌≤◌, List, [], ◌∷◌, map, All, IsTrue, ℤ, Some, None, Result, Ok, Err, refl, sym, ◌∙◌, ap, subst, arith, ⊎_elim}
use mathlib.Core.Path.{ap₂}
use Rattle.std.specs.Prelude.{IfOk}
use Rattle.std.specs.List.{AllZip}
use Rattle.std.specs.declared.rc.Rc.{Rc}
use Rattle.std.specs.declared.alloc.Global.{Global}
use Rattle.std.proofs.lemmas.Bool.{cases_lt}
use Rattle.std.proofs.lemmas.Option.{same_Some}
use Rattle.std.proofs.lemmas.List.Elements.{All-head, All-tail}
use Rattle.sf_func.specs.Registries.{AnswersByName}
use Rattle.sf_expr.specs.declared.exprs.ExprId.{ExprId}
use Rattle.sf_expr.specs.declared.exprs.FunctionId.{FunctionId}
use Rattle.sf_expr.specs.declared.exprs.NameId.{NameId}
use Rattle.sf_expr.specs.Patterns.{pattern_of}
use Rattle.sf_expr.specs.declared.exprs.PatternId.{PatternId}
use Rattle.sf_expr.specs.declared.exprs.Exprs.{Exprs}
use Rattle.sf_expr.specs.Arena.{expression, function_at, name_at, stored_pattern, HoldsName, Extends}
use Rattle.sf_term.specs.declared.form.Start.{Start}
use Rattle.sf_term.specs.declared.form.Naming.TheVariants.{Process, Probe}
use Rattle.sf_term.specs.declared.node.TermId.{TermId}
use Rattle.sf_term.specs.declared.node.Argument.{Argument}
use Rattle.sf_term.specs.declared.node.Releasing.{Releasing}
use Rattle.sf_term.specs.declared.node.Editing.{Editing}
use Rattle.sf_term.specs.declared.collection.CollExpr.{CollExpr}
use Rattle.sf_term.specs.declared.node.Node.{Node}
use Rattle.sf_term.specs.declared.node.Node.TheVariants as ast
use Rattle.sf_term.specs.declared.node.Primitive.{Primitive}
use Rattle.sf_term.specs.declared.node.Primitive.TheVariants as ast_primitives
use Rattle.sf_term.specs.declared.form.Timing.{Timing}
use Rattle.sf_term.specs.declared.form.Selection.{Selection}
use Rattle.sf_code.specs.declared.open.OpenCode.{OpenCode}
use Rattle.sf_term.specs.declared.program.Program.{Program}
use Rattle.sf_term.specs.Trees.{Term, Template, Templates, used, dropped, chosen, Arguments, value_argument, process_argument, collection_argument, gathered, releasing, editing, primitive, reference, started, call, probe, joined, sided, headed, transformed, never, switching, continuing, with_value, timed, arrow, accumulated}
use Rattle.sf_term.specs.Trees
use Rattle.sf_term.specs.Parameters.{PlacedParameter, parameters_of}
use Rattle.sf_term.specs.Headers.{Header}
use Rattle.sf_term.specs.Entries.{absent_payload}
use Rattle.sf_term.specs.Arena.{term_count, program_expression, placed_pattern, program_function, program_expressions, argument_nodes, arguments_of, term_node_at, program_entry, term_of, collection_node, collection_of, CollectionBelow, ArgumentBelow, TermPartsBelow, HoldsMembers, HoldsExpression, ProgramHoldsFunction, ProgramHoldsPattern, HoldsArgument, HoldsTermParts, term_template, tree, headers_of}
use Rattle.sf_mean.specs.Networks.{network_of}
use Rattle.sf_term.proofs.Extended.{term_past, node_builds, parts_held, expression_in, holds_in, pattern_under_in, pattern_holds_in, function_at_in, function_holds_in}
use Rattle.sf_law.specs.declared.node.PlanId.{PlanId}
use Rattle.sf_law.specs.declared.node.PlanArgument.{PlanArgument}
use Rattle.sf_law.specs.declared.node.PlanCollection.{PlanCollection}
use Rattle.sf_law.specs.declared.node.PlanReleasing.{PlanReleasing}
use Rattle.sf_law.specs.declared.node.PlanEditing.{PlanEditing}
use Rattle.sf_law.specs.declared.node.PlanNode.{PlanNode}
use Rattle.sf_law.specs.declared.node.PlanPrimitive.{PlanPrimitive}
use Rattle.sf_law.specs.declared.node.PlanPrimitive.TheVariants as plan_primitives
use Rattle.sf_law.specs.declared.plan.Plan.{Plan}
use Rattle.sf_law.specs.Headers.{ParameterHeader, PlanHeader}
use Rattle.sf_law.specs.Entries.{IsCodedCollection, primitive_over, closed_before, collection_end, arguments_end, parts_end, is_whole}
use Rattle.sf_law.specs.Arena.{plan_number, plan_expressions, node_count, plan_tree, plan_headers, plan_binding, plan_template, plan_arguments, plan_collection, network_of_plan, BuildsPlan, builds_primitive, builds_started, builds_probe, builds_call, builds_joined, builds_sided, builds_headed, builds_transformed, builds_switching, builds_continuing, builds_gathered, builds_releasing, builds_editing, ExtendsPlan, AddsNode}
use Rattle.sf_law.specs.Copies.{plan_id, named_process, CopiesCollection, copies_empty, copies_used, copies_added, copies_dropped, copies_kept, copies_chosen, CopiesReleasing, CopiesEditing, CopiesArgument, copies_value, copies_started, copies_closed, copies_members, CopiesPrimitive, copies_bare, copies_never, copies_with_value, copies_timed, copies_selected, copies_accumulated, copies_arrow, CopiesNode, copies_primitive, copies_process, copies_probe, copies_call, copies_joined, copies_sided, copies_headed, copies_transformed, copies_switching, copies_continuing, copies_gathered, copies_releasing, copies_editing, CopiesParameter, CopiesTemplate, ShowsTerms}
use Rattle.sf_law.proofs.Extended.{tree_past}

-- a primitive with an equal time is copied
pub timed_copied : {k : Timing} {q z : ℤ} {e : ExprId} {c : OpenCode} → z ≡ q → CopiesPrimitive (ast_primitives.Timed k q e) (plan_primitives.Timed k z e c)
timed_copied {k} {q} {z} {e} {c} is = subst (λ (z : ℤ). CopiesPrimitive (ast_primitives.Timed k q e) (plan_primitives.Timed k z e c)) (sym is) copies_timed

pub selected_copied : {k : Selection} {n z : ℤ} → z ≡ n → CopiesPrimitive (ast_primitives.Selected k n) (plan_primitives.Selected k z)
selected_copied {k} {n} {z} is = subst (λ (z : ℤ). CopiesPrimitive (ast_primitives.Selected k n) (plan_primitives.Selected k z)) (sym is) copies_selected

-- a plan shows a program's terms below a number
abbrev pub ShowsBelow : Program → Plan → ℕ → Type 0
ShowsBelow p q i = (t : TermId) → t.0 < i → plan_tree q (plan_id t) ≡ tree p t

-- a copy stays one where it is shared
pub shared_copies : {E : Type 0} {m : TermId → PlanId} {c : CollExpr} {d : PlanCollection} (r : Result (Rc PlanCollection Global) E) → IfOk r (λ a. a.value ≡ d) → CopiesCollection m c d → IfOk r (λ a. CopiesCollection m c a.value)
shared_copies {m = m} {c = c} (Ok a) is h = subst (CopiesCollection m c) (sym is) h
shared_copies (Err e) is h = is

pub shared_coded : {E : Type 0} (x : Exprs) (d : PlanCollection) (r : Result (Rc PlanCollection Global) E) → IfOk r (λ a. a.value ≡ d) → IsCodedCollection x d → IfOk r (λ a. IsCodedCollection x a.value)
shared_coded x d (Ok a) is h = subst (IsCodedCollection x) (sym is) h
shared_coded x d (Err e) is h = is

-- ids stand below a number for terms below another
abbrev pub StandBelow : (TermId → PlanId) → (n i : ℕ) → Type 0
StandBelow m n i = (t : TermId) → t.0 < n → (m t).0 < i

-- the terms of a collection are below a number where the ids that stand for the program's are
module _ (m : TermId → PlanId) (n i : ℕ) (below : StandBelow m n i) where
  collection_fits : (c : CollExpr) (d : PlanCollection) → CopiesCollection m c d → CollectionBelow n c → collection_end d ≤ i
  collection_fits _ _ copies_empty h = omega arith
  collection_fits _ _ copies_used h = omega arith
  collection_fits _ _ (copies_added {c} {d} {t} z) h = omega (arith, collection_fits c d z h.0, below t h.1)
  collection_fits _ _ (copies_dropped {c} {d} z) h = collection_fits c d z h
  collection_fits _ _ (copies_kept {c} {d} z) h = collection_fits c d z h
  collection_fits _ _ (copies_chosen {c} {d} {g} {h = e} y z) h = omega (arith, collection_fits c g y h.0, collection_fits d e z h.1)

  module _ (p : Program) where
    -- so are those of arguments
    arguments_fit : (vs : List Argument) (ws : List PlanArgument) → AllZip (CopiesArgument p m) vs ws → All (ArgumentBelow p n) vs → arguments_end ws ≤ i
    arguments_fit [] [] z h = omega arith
    arguments_fit [] (w ∷ ws) z h = absurd z
    arguments_fit (v ∷ vs) [] z h = absurd z
    arguments_fit (v ∷ vs) (w ∷ ws) z h = one v w z.0 (All-head (ArgumentBelow p n) v vs h) (arguments_fit vs ws z.1 (All-tail (ArgumentBelow p n) v vs h))
      where
        one : (v : Argument) (w : PlanArgument) → CopiesArgument p m v w → ArgumentBelow p n v → arguments_end ws ≤ i → arguments_end (w ∷ ws) ≤ i
        one _ _ copies_value b more = more
        one _ _ (copies_started is) b more = more
        one _ _ (copies_closed {a} is) b more = omega (arith, below a b, more)
        one _ _ (copies_members {c} {r} z) b more = omega (arith, collection_fits (collection_node p c) r.value z b, more)

    -- a node's parts are below a number where the ids that stand for the program's are
    pub parts_fit : (a : Node) (b : PlanNode) → CopiesNode p m a b → TermPartsBelow p a n → parts_end b ≤ i
    parts_fit _ _ (copies_primitive c) h = omega arith
    parts_fit _ _ copies_process h = omega arith
    parts_fit _ _ (copies_probe is) h = omega arith
    parts_fit _ _ (copies_call {a} {v} z) h = arguments_fit (argument_nodes p a) v.items z h
    parts_fit _ _ (copies_joined {a} {b}) h = omega (arith, below a h.0, below b h.1)
    parts_fit _ _ (copies_sided {a}) h = omega (arith, below a h)
    parts_fit _ _ (copies_headed {a}) h = omega (arith, below a h)
    parts_fit _ _ (copies_transformed {a}) h = omega (arith, below a h)
    parts_fit _ _ (copies_switching {n = s}) h = omega (arith, below s.source h.0, below s.body h.1)
    parts_fit _ _ (copies_continuing {n = s}) h = omega (arith, below s.source h.0, below s.observer h.1, below s.body h.2)
    parts_fit _ _ (copies_gathered {c} {r} z) h = collection_fits (collection_node p c) r.value z h
    parts_fit _ _ (copies_releasing {s} {r} z) h =
        omega (arith, collection_fits (collection_node p s.members) r.members.value z.members h.0, below s.observer h.1, below s.body h.2, ap plan_number z.observer, ap plan_number z.body)
    parts_fit _ _ (copies_editing {s} {r} z) h = omega (arith, collection_fits (collection_node p s.members) r.members.value z.members h.0, collection_fits (collection_node p s.edit) r.edit.value z.edit h.1)

-- the same numbers are below the same number
pub stand_same : (i : ℕ) → StandBelow plan_id i i
stand_same i t h = h

-- no program has a pipeline
pub no_pipeline : (p : Program) (m : TermId → PlanId) (a : Node) (b : PlanNode) → CopiesNode p m a b → IsTrue (is_whole b)
no_pipeline p m _ _ (copies_primitive c) = refl
no_pipeline p m _ _ copies_process = refl
no_pipeline p m _ _ (copies_probe is) = refl
no_pipeline p m _ _ (copies_call z) = refl
no_pipeline p m _ _ copies_joined = refl
no_pipeline p m _ _ copies_sided = refl
no_pipeline p m _ _ copies_headed = refl
no_pipeline p m _ _ copies_transformed = refl
no_pipeline p m _ _ copies_switching = refl
no_pipeline p m _ _ copies_continuing = refl
no_pipeline p m _ _ (copies_gathered z) = refl
no_pipeline p m _ _ (copies_releasing z) = refl
no_pipeline p m _ _ (copies_editing z) = refl

-- a node that is a named process, and any other as an argument
module _ (p : Program) where
  named_node : (n : Node) (w : Start) (k : NameId) → HoldsTermParts p n → named_process n ≡ Some (w, k) → (term_of p n ≡ reference (started w (name_at (program_expressions p) k))) × HoldsName (program_expressions p) k
  named_node (ast.Primitive q) w k held h = absurd cc
  named_node (ast.Named (Process v) j s) w k held h =
      let same : (v, j) ≡ (w, k) = same_Some _ _ h in
      (ap (λ x. reference (started x.0 (name_at (program_expressions p) x.1))) same, subst (λ x. HoldsName (program_expressions p) x.1) same held)
  named_node (ast.Named Probe j s) w k held h = absurd cc
  named_node (ast.Call j a) w k held h = absurd cc
  named_node (ast.Joined j a b) w k held h = absurd cc
  named_node (ast.Sided d a) w k held h = absurd cc
  named_node (ast.Headed g e a) w k held h = absurd cc
  named_node (ast.Transformed f a) w k held h = absurd cc
  named_node (ast.Switching n) v k held h = absurd cc
  named_node (ast.Continuation n) v k held h = absurd cc
  named_node (ast.Gathered c) v k held h = absurd cc
  named_node (ast.Releasing n) v k held h = absurd cc
  named_node (ast.Editing n) v k held h = absurd cc

  closed_node : (n : Node) (vs : Arguments) → named_process n ≡ None → closed_before (term_of p n) vs ≡ process_argument (term_of p n) vs
  closed_node (ast.Primitive (ast_primitives.Bare k)) vs h = refl
  closed_node (ast.Primitive (ast_primitives.Never n)) vs h = refl
  closed_node (ast.Primitive (ast_primitives.WithValue k e)) vs h = refl
  closed_node (ast.Primitive (ast_primitives.Timed k q e)) vs h = refl
  closed_node (ast.Primitive (ast_primitives.Selected k n)) vs h = refl
  closed_node (ast.Primitive (ast_primitives.Arrow f)) vs h = refl
  closed_node (ast.Primitive (ast_primitives.Accumulated k e f)) vs h = refl
  closed_node (ast.Named (Process w) j s) vs h = absurd cc
  closed_node (ast.Named Probe j s) vs h = refl
  closed_node (ast.Call j a) vs h = refl
  closed_node (ast.Joined j a b) vs h = refl
  closed_node (ast.Sided d a) vs h = refl
  closed_node (ast.Headed g e a) vs h = refl
  closed_node (ast.Transformed f a) vs h = refl
  closed_node (ast.Switching n) vs h = refl
  closed_node (ast.Continuation n) vs h = refl
  closed_node (ast.Gathered c) vs h = refl
  closed_node (ast.Releasing n) vs h = refl
  closed_node (ast.Editing n) vs h = refl

  pub named_tree : (a : TermId) (w : Start) (k : NameId) → named_process (term_node_at p a) ≡ Some (w, k) → (tree p a ≡ reference (started w (name_at (program_expressions p) k))) × HoldsName (program_expressions p) k
  unfolding term_node_at program_entry
  named_tree a w k h =
      let n = named_node (term_node_at p a) w k (parts_held p a) h in
      (node_builds p a (term_node_at p a) refl ∙ n.0, n.1)

  closed_tree : (a : TermId) (vs : Arguments) → named_process (term_node_at p a) ≡ None → closed_before (tree p a) vs ≡ process_argument (tree p a) vs
  closed_tree a vs h = subst (λ t. closed_before t vs ≡ process_argument t vs) (sym (node_builds p a (term_node_at p a) refl)) (closed_node (term_node_at p a) vs h)

module _ (p : Program) (q : Plan) (kept : Extends (program_expressions p) (plan_expressions q)) where
  pub value_same : (e : ExprId) → HoldsExpression p e → expression (plan_expressions q) e ≡ program_expression p e
  value_same e h = kept.trees e (holds_in p e h) ∙ expression_in p e

  pub function_same : (f : FunctionId) → ProgramHoldsFunction p f → function_at (plan_expressions q) f ≡ program_function p f
  function_same f h = kept.meanings f (function_holds_in p f h) ∙ function_at_in p f

  pub pattern_same : (i : PatternId) → ProgramHoldsPattern p i → stored_pattern (plan_expressions q) i ≡ placed_pattern p i
  pattern_same i h = kept.placed i (pattern_holds_in p i h) ∙ pattern_under_in p i

  pub same_primitive : (a : Primitive) (b : PlanPrimitive) → CopiesPrimitive a b → HoldsTermParts p (ast.Primitive a) → primitive (primitive_over (plan_expressions q) b) ≡ term_of p (ast.Primitive a)
  same_primitive _ _ copies_bare h = refl
  same_primitive _ _ (copies_never {n}) h = ap (λ l. primitive (never (absent_payload l))) (kept.constants n h)
  same_primitive _ _ (copies_with_value {k} {e}) h = ap (λ v. primitive (with_value k v)) (value_same e h)
  same_primitive _ _ (copies_timed {k} {q} {e}) h = ap (λ v. primitive (timed k q v)) (value_same e h)
  same_primitive _ _ copies_selected h = refl
  same_primitive _ _ (copies_accumulated {k} {e} {f = f}) h = ap₂ (λ v g. primitive (accumulated k v g)) (value_same e h.0) (function_same f h.1)
  same_primitive _ _ (copies_arrow {f}) h = ap (λ v. primitive (arrow v)) (function_same f h)

  -- a copy of a collection stands for the same where its terms do
  pub collection_same : (i : ℕ) → ShowsBelow p q i → (c : CollExpr) (d : PlanCollection) → CopiesCollection plan_id c d → CollectionBelow i c → HoldsMembers p c → plan_collection q d ≡ collection_of p c
  collection_same i shows _ _ copies_empty below held = refl
  collection_same i shows _ _ (copies_used {k}) below held = ap (λ x. used x) (kept.names k held)
  collection_same i shows _ _ (copies_added {c} {d} {e} {t} z) below held =
      ap₂ (λ j f. Trees.added j (expression (plan_expressions q) e) f) (collection_same i shows c d z below.0 held.0) (shows t below.1) ∙ ap (λ v. Trees.added (collection_of p c) v (tree p t)) (value_same e held.1)
  collection_same i shows _ _ (copies_dropped {c} {d} {e} z) below held = ap₂ (λ j v. dropped j v) (collection_same i shows c d z below held.0) (value_same e held.1)
  collection_same i shows _ _ (copies_kept {c} {d} {f} z) below held = ap₂ (λ j g. Trees.kept j g) (collection_same i shows c d z below held.0) (function_same f held.1)
  collection_same i shows _ _ (copies_chosen {c} {d} {g} {h} {e} y z) below held =
      ap₂ (λ v j. chosen v j (plan_collection q h)) (value_same e held.0) (collection_same i shows c g y below.0 held.1) ∙ ap (λ k. chosen (program_expression p e) (collection_of p c) k) (collection_same i shows d h z below.1 held.2)

  -- so do members that give way
  releasing_same : (s : Releasing) (r : PlanReleasing) (i : ℕ) → CopiesReleasing p plan_id s r → TermPartsBelow p (ast.Releasing s) i → HoldsTermParts p (ast.Releasing s) → ShowsBelow p q i
      → releasing r.shown (plan_collection q r.members.value) (plan_tree q r.observer) (name_at (plan_expressions q) r.name) (pattern_of (stored_pattern (plan_expressions q) r.pattern)) (plan_tree q r.body) ≡ term_of p (ast.Releasing s)
  releasing_same s r i z below held shows =
      let members = collection_same i shows (collection_node p s.members) r.members.value z.members below.0 held.0.1 in
      let observer : plan_tree q r.observer ≡ tree p s.observer = ap (λ a. plan_tree q a) z.observer ∙ shows s.observer below.1 in
      let body : plan_tree q r.body ≡ tree p s.body = ap (λ a. plan_tree q a) z.body ∙ shows s.body below.2 in
      let name : name_at (plan_expressions q) r.name ≡ name_at (program_expressions p) s.name = ap (λ k. name_at (plan_expressions q) k) z.name ∙ kept.names s.name held.2 in
      let pattern : stored_pattern (plan_expressions q) r.pattern ≡ placed_pattern p s.pattern = ap (λ a. stored_pattern (plan_expressions q) a) z.pattern ∙ pattern_same s.pattern held.3 in
      λ j. releasing (z.shown j) (members j) (observer j) (name j) (pattern_of (pattern j)) (body j)

  editing_same : (s : Editing) (r : PlanEditing) (i : ℕ) → CopiesEditing p plan_id s r → TermPartsBelow p (ast.Editing s) i → HoldsTermParts p (ast.Editing s) → ShowsBelow p q i
      → editing r.shown (plan_collection q r.members.value) (name_at (plan_expressions q) r.name) (pattern_of (stored_pattern (plan_expressions q) r.pattern)) (plan_collection q r.edit.value) ≡ term_of p (ast.Editing s)
  editing_same s r i z below held shows =
      let members = collection_same i shows (collection_node p s.members) r.members.value z.members below.0 held.0.1 in
      let edit = collection_same i shows (collection_node p s.edit) r.edit.value z.edit below.1 held.3.1 in
      let name : name_at (plan_expressions q) r.name ≡ name_at (program_expressions p) s.name = ap (λ k. name_at (plan_expressions q) k) z.name ∙ kept.names s.name held.1 in
      let pattern : stored_pattern (plan_expressions q) r.pattern ≡ placed_pattern p s.pattern = ap (λ a. stored_pattern (plan_expressions q) a) z.pattern ∙ pattern_same s.pattern held.2 in
      λ j. editing (z.shown j) (members j) (name j) (pattern_of (pattern j)) (edit j)

  -- the same arguments stand for the same
  same_arguments : (vs : List Argument) (ws : List PlanArgument) (i : ℕ) → AllZip (CopiesArgument p plan_id) vs ws → All (ArgumentBelow p i) vs → All (HoldsArgument p) vs → ShowsBelow p q i → plan_arguments q ws ≡ arguments_of p vs
  same_arguments [] [] i z below held shows = refl
  same_arguments [] (w ∷ ws) i z below held shows = absurd z
  same_arguments (v ∷ vs) [] i z below held shows = absurd z
  same_arguments (v ∷ vs) (w ∷ ws) i z below held shows =
      one v w z.0 (All-head (ArgumentBelow p i) v vs below) (All-head (HoldsArgument p) v vs held) (same_arguments vs ws i z.1 (All-tail (ArgumentBelow p i) v vs below) (All-tail (HoldsArgument p) v vs held) shows)
    where
      one : (v : Argument) (w : PlanArgument) → CopiesArgument p plan_id v w → ArgumentBelow p i v → HoldsArgument p v → plan_arguments q ws ≡ arguments_of p vs → plan_arguments q (w ∷ ws) ≡ arguments_of p (v ∷ vs)
      one _ _ (copies_value {e}) b h more = ap₂ (λ x us. value_argument x us) (value_same e h) more
      one _ _ (copies_started {a} {w} {k} is) b h more =
          ap₂ (λ t us. process_argument t us) (ap (λ x. reference (started w x)) (kept.names k (named_tree p a w k is).1) ∙ sym (named_tree p a w k is).0) more
      one _ _ (copies_closed {a} is) b h more = ap₂ (λ t us. closed_before t us) (shows a b) more ∙ closed_tree p a (arguments_of p vs) is
      one _ _ (copies_members {c} {r} z) b h more = ap₂ (λ j us. collection_argument j us) (collection_same i shows (collection_node p c) r.value z b h.1) more

  -- the same node stands for the same tree
  pub same_term : (n : Node) (m : PlanNode) (u : Term) (i : ℕ) → CopiesNode p plan_id n m → TermPartsBelow p n i → HoldsTermParts p n → ShowsBelow p q i → BuildsPlan q m u → u ≡ term_of p n
  same_term _ _ _ i (copies_primitive {q = a} {r = b} c) below held shows (builds_primitive k) = same_primitive a b c held
  same_term _ _ _ i (copies_process {w} {k}) below held shows builds_started = ap (λ x. reference (started w x)) (kept.names k held)
  same_term _ _ _ i (copies_probe is) below held shows builds_probe = ap (λ x. primitive (probe x)) is
  same_term _ _ _ i (copies_call {k} {a} {v = v} z) below held shows (builds_call c w) =
      ap₂ (λ x vs. reference (call x vs)) (kept.names k held.0) (same_arguments (argument_nodes p a) v.items i z below held.2 shows)
  same_term _ _ _ i (copies_joined {j} {a} {b}) below held shows builds_joined = ap₂ (λ f g. joined j f g) (shows a below.0) (shows b below.1)
  same_term _ _ _ i (copies_sided {d} {a}) below held shows builds_sided = ap (λ f. sided d f) (shows a below)
  same_term _ _ _ i (copies_headed {h = k} {e} {c} {a}) below held shows (builds_headed w) = ap₂ (λ v f. headed k v f) (value_same e held.0) (shows a below)
  same_term _ _ _ i (copies_transformed {f} {c} {a}) below held shows (builds_transformed w) = ap₂ (λ g t. transformed g t) (function_same f held.0) (shows a below)
  same_term _ _ _ i (copies_switching {n}) below held shows builds_switching =
      ap₂ (λ f g. switching n.form f (pattern_of (stored_pattern (plan_expressions q) n.pattern)) g) (shows n.source below.0) (shows n.body below.1)
      ∙ ap (λ z. switching n.form (tree p n.source) (pattern_of z) (tree p n.body)) (pattern_same n.pattern held.1)
  same_term _ _ _ i (copies_continuing {n}) below held shows builds_continuing =
      let name = name_at (plan_expressions q) n.name in
      let pattern = pattern_of (stored_pattern (plan_expressions q) n.pattern) in
      ap₂ (λ f g. continuing n.shown f g name pattern (plan_tree q (plan_id n.body))) (shows n.source below.0) (shows n.observer below.1)
      ∙ ap (λ u. continuing n.shown (tree p n.source) (tree p n.observer) name pattern u) (shows n.body below.2)
      ∙ ap₂ (λ x z. continuing n.shown (tree p n.source) (tree p n.observer) x (pattern_of z) (tree p n.body)) (kept.names n.name held.2) (pattern_same n.pattern held.3)
  same_term _ _ _ i (copies_gathered {c} {r} z) below held shows (builds_gathered w) = ap (λ j. gathered j) (collection_same i shows (collection_node p c) r.value z below held.1)
  same_term _ _ _ i (copies_releasing {s} {r} z) below held shows (builds_releasing w) = releasing_same s r i z below held shows
  same_term _ _ _ i (copies_editing {s} {r} z) below held shows (builds_editing w) = editing_same s r i z below held shows

-- one more tree is shown
pub shows_next : (p : Program) (old new : Plan) (n : Node) (m : PlanNode) (t : TermId) (a : PlanId) (i : ℕ) → Extends (program_expressions p) (plan_expressions old) → node_count old ≡ i → t.0 ≡ i → ShowsBelow p old i
    → tree p t ≡ term_of p n → TermPartsBelow p n i → HoldsTermParts p n → CopiesNode p plan_id n m → AddsNode old new a m → ExtendsPlan old new → ShowsBelow p new (i + 1)
shows_next p old new n m t a i same count at shows was below held same_node added kept u h = ⊎_elim before here (cases_lt u.0 i)
  where
    before : u.0 < i → plan_tree new (plan_id u) ≡ tree p u
    before b = kept.trees (plan_id u) (omega (arith, count)) ∙ shows u b

    here : i ≤ u.0 → plan_tree new (plan_id u) ≡ tree p u
    here b =
        let here : u.0 ≡ i = omega arith in
        let id : plan_id u ≡ a = ap (λ k. record { 0 = k }) (here ∙ sym count ∙ sym added.next) in
        let term_id : t ≡ u = ap (λ k. record { 0 = k }) (at ∙ sym here) in
        ap (λ a. plan_tree new a) id ∙ same_term p old same n m (plan_tree new a) i same_node below held shows added.builds ∙ sym was ∙ ap (λ t. tree p t) term_id

-- all terms are shown
pub shows_all : (p : Program) (q : Plan) (i : ℕ) → term_count p ≤ i → node_count q ≡ i → ShowsBelow p q i → ShowsTerms p q
shows_all p q i all count shows t = ⊎_elim (λ h. shows t h) (λ h. tree_past q (plan_id t) (omega (arith, count)) ∙ sym (term_past p t (omega (arith, all)))) (cases_lt t.0 i)

-- the parameters are the same
pub same_parameters : (q : Plan) (xs : List PlacedParameter) (ys : List ParameterHeader) → AllZip (CopiesParameter (plan_expressions q)) xs ys → map (plan_binding q) ys ≡ parameters_of xs
same_parameters q [] [] z = refl
same_parameters q [] (y ∷ ys) z = absurd z
same_parameters q (x ∷ xs) [] z = absurd z
same_parameters q (x ∷ xs) (y ∷ ys) z = λ i. (z.0.named i, z.0.kind i) ∷ same_parameters q xs ys z.1 i

-- the templates are the same where the terms are
same_templates : (p : Program) (q : Plan) (hs : List Header) (ms : List PlanHeader) → ShowsTerms p q → AllZip (CopiesTemplate (plan_expressions q)) hs ms → map (plan_template q) ms ≡ map (term_template p) hs
same_templates p q [] [] shows z = refl
same_templates p q [] (m ∷ ms) shows z = absurd z
same_templates p q (h ∷ hs) [] shows z = absurd z
same_templates p q (h ∷ hs) (m ∷ ms) shows z =
    let one : plan_template q m ≡ term_template p h = λ i. record {
      name = z.0.name i;
      parameters = same_parameters q h.parameters m.parameters z.0.parameters i;
      input = z.0.input i;
      output = z.0.output i;
      body = (ap (λ a. plan_tree q a) z.0.body ∙ shows h.body) i;
    } in
    ap₂ (λ (t : Template) us. t ∷ us) one (same_templates p q hs ms shows z.1)

-- a plan that shows the terms and has the templates has the network
pub same_network : (f : AnswersByName) (p : Program) (q : Plan) → ShowsTerms p q → AllZip (CopiesTemplate (plan_expressions q)) (headers_of p) (plan_headers q) → network_of_plan f q ≡ network_of f p
same_network f p q shows headers = ap (λ (ts : Templates). record { templates = ts; functions = f }) (same_templates p q (headers_of p) (plan_headers q) shows headers)
