-- The plans of nodes, by the plans of their parts.
use Rattle.std.proofs.Common.{◌≡◌, ◌<◌, ◌≤◌, List, [], ◌∷◌, length, slice_index_or, All, true, false, true≢false, None, Vec, refl, sym, ◌∙◌, ap, subst, arith, ⊎_elim}
use mathlib.Core.Path.{ap₂}
use Rattle.std.specs.Prelude.{string_bytes}
use Rattle.std.specs.List.{AllZip}
use Rattle.std.specs.declared.rc.Rc.{Rc}
use Rattle.std.specs.declared.alloc.Global.{Global}
use Rattle.std.proofs.lemmas.List.Elements.{All-head, All-tail}
use Rattle.sf_expr.specs.declared.exprs.ExprId.{ExprId}
use Rattle.sf_expr.specs.declared.exprs.NameId.{NameId}
use Rattle.sf_expr.specs.Patterns.{pattern_of}
use Rattle.sf_expr.specs.Arena.{function_at, name_at, stored_pattern, Extends}
use Rattle.sf_term.specs.declared.form.Heading.{Heading}
use Rattle.sf_term.specs.declared.form.Join.{Join}
use Rattle.sf_term.specs.declared.form.Join.TheVariants.{InSequence}
use Rattle.sf_term.specs.declared.form.Naming.TheVariants.{Process, Probe}
use Rattle.sf_term.specs.declared.form.Side.{Side}
use Rattle.sf_term.specs.declared.node.ArgumentsId.{ArgumentsId}
use Rattle.sf_term.specs.declared.node.TermId.{TermId}
use Rattle.sf_term.specs.declared.node.Argument.{Argument}
use Rattle.sf_term.specs.declared.node.Switch.{Switch}
use Rattle.sf_term.specs.declared.node.Continuation.{Continuation}
use Rattle.sf_term.specs.declared.node.Releasing.{Releasing}
use Rattle.sf_term.specs.declared.node.Editing.{Editing}
use Rattle.sf_term.specs.declared.collection.CollectionId.{CollectionId}
use Rattle.sf_term.specs.declared.collection.CollExpr.{CollExpr}
use Rattle.sf_term.specs.declared.node.Node.{Node}
use Rattle.sf_term.specs.declared.node.Node.TheVariants as ast
use Rattle.sf_term.specs.declared.node.Primitive.{Primitive}
use Rattle.sf_term.specs.declared.node.Primitive.TheVariants as ast_primitives
use Rattle.sf_term.specs.declared.program.Program.{Program}
use Rattle.sf_term.specs.Trees.{whole, Term, Collection, used, dropped, chosen, primitive, reference, started, call, probe, Arguments, value_argument, process_argument, joined, sided, headed, transformed, switching, continuing, gathered, releasing, editing, staged}
use Rattle.sf_term.specs.Trees
use Rattle.sf_term.specs.Arena.{tree, term_number, term_of, program_expressions, arguments_of, argument_nodes, term_node_at, collection_node, collection_of, CollectionBelow, ArgumentBelow, HoldsMembers, HoldsArgument, HoldsTermParts, TermPartsBelow, program_expression, HoldsExpression, ProgramHoldsPattern}
use Rattle.sf_term.proofs.Extended.{node_builds}
use Rattle.sf_law.specs.declared.node.PlanId.{PlanId}
use Rattle.sf_law.specs.declared.node.TemplateId.{TemplateId}
use Rattle.sf_law.specs.declared.node.PlanArgument.{PlanArgument}
use Rattle.sf_law.specs.declared.node.PlanArgument.TheVariants as plan_values
use Rattle.sf_law.specs.declared.node.PlanCollection.{PlanCollection}
use Rattle.sf_law.specs.declared.node.PlanReleasing.{PlanReleasing}
use Rattle.sf_law.specs.declared.node.PlanEditing.{PlanEditing}
use Rattle.sf_law.specs.declared.node.PlanNode.{PlanNode}
use Rattle.sf_law.specs.declared.node.PlanNode.TheVariants as nodes
use Rattle.sf_law.specs.declared.node.PlanPrimitive.{PlanPrimitive}
use Rattle.sf_law.specs.declared.plan.Plan.{Plan}
use Rattle.sf_law.specs.Entries.{primitive_over, closed_before}
use Rattle.sf_law.specs.Arena.{node_count, plan_tree, plan_expressions, plan_expression_at, plan_arguments, plan_collection, BuildsPlan, builds_primitive, builds_started, builds_probe, builds_call, builds_transformed, builds_switching, builds_continuing, builds_gathered, builds_releasing, builds_editing, AddsNode}
use Rattle.sf_law.specs.Copies.{named_process, copied_switch, copied_continuing, CopiesPrimitive, CopiesCollection, copies_empty, copies_used, copies_added, copies_dropped, copies_kept, copies_chosen, CopiesReleasing, CopiesEditing, CopiesArgument, copies_value, copies_started, copies_closed, copies_members, CopiesNode, copies_primitive, copies_process, copies_probe, copies_call, copies_joined, copies_sided, copies_headed, copies_transformed, copies_switching, copies_continuing, copies_gathered, copies_releasing, copies_editing}
use Rattle.sf_law.proofs.Copied.{StandBelow, value_same, function_same, pattern_same, same_primitive, named_tree}
use Rattle.sf_rewrite.specs.Laws.{Laws, unchanged, in_turn, as_pipeline}
use Rattle.sf_rewrite.specs.Plans.{is_started, Plans, plans, of_primitive, of_started, of_call, PlansArguments, of_no_arguments, of_value_argument, of_named_argument, of_closed_argument, of_term_argument, of_collection_argument, PlansCollection, of_without, of_used, of_added, of_dropped, of_kept, of_chosen, of_gathered, of_releasing, of_editing, of_join, of_side, of_heading, of_transformed, of_switch, of_continuing}
use Rattle.sf_rewrite.specs.Normal.{IsPlan, plan_primitive, plan_started, plan_call, plan_transformed, plan_switch, plan_continuing, ArePlans, plan_no_arguments, plan_value_argument, plan_closed_argument, plan_term_argument, plan_collection_argument, IsPlanned, planned_without, planned_used, planned_added, planned_dropped, planned_kept, planned_chosen, plan_gathered, plan_releasing, plan_editing}
use Rattle.sf_optimise.specs.Making.{GrowsPlan, IsNormal, MakesPlan}
use Rattle.std.proofs.lemmas.Bool.{cases_lt}
use Rattle.sf_arena.specs.Items.{Added}
use Rattle.sf_arena.proofs.Grown.{added_counted, added_item, item_kept}
use Rattle.sf_optimise.specs.Optimised.{id_of_term, keeps_form, HoldsPlan, HoldsPlans}
use Rattle.sf_optimise.proofs.Made.{held_new}

pub is_normal : {t : Term} {q : Plan} {a : PlanId} → HoldsPlan t q a → IsNormal q a
is_normal P = record { held = P.held; normal = P.normal }

pub sequence_makes : {t u : Term} {p : Plan} {a : PlanId} → MakesPlan (staged whole t u) p a → MakesPlan (joined InSequence t u) p a
sequence_makes M = record { held = M.held; normal = M.normal; law = in_turn as_pipeline M.law }

-- ## Forms with parts

pub side_rewritten : {t : Term} {q r : Plan} {d : Side} {a b : PlanId} → HoldsPlan t q a → MakesPlan (sided d (plan_tree q a)) r b → HoldsPlan (sided d t) r b
side_rewritten P M = record { held = M.held; normal = M.normal; plan = plans (of_side P.plan) M.law }

pub join_rewritten : {t u : Term} {q r : Plan} {j : Join} {a b c : PlanId} → HoldsPlan t q a → HoldsPlan u q b → MakesPlan (joined j (plan_tree q a) (plan_tree q b)) r c → HoldsPlan (joined j t u) r c
join_rewritten P Q M = record { held = M.held; normal = M.normal; plan = plans (of_join P.plan Q.plan) M.law }

pub heading_rewritten : (p : Program) (q r : Plan) (e : ExprId) {t : Term} {h : Heading} {a b : PlanId} → Extends (program_expressions p) (plan_expressions q) → HoldsExpression p e → HoldsPlan t q a
    → MakesPlan (headed h (plan_expression_at q e) (plan_tree q a)) r b → HoldsPlan (headed h (program_expression p e) t) r b
heading_rewritten p q r e {t} {h} {a} {b} kept held P M = record {
  held = M.held;
  normal = M.normal;
  plan = plans (of_heading P.plan) (subst (λ i. Laws (headed h i (plan_tree q a)) (plan_tree r b)) (value_same p q kept e held) M.law);
}

-- ## Nodes that are added as they are

-- a node that was added, of which this is a plan
added : {t u : Term} {q r : Plan} {m : PlanNode} {c : PlanId} → AddsNode q r c m → plan_tree r c ≡ u → IsPlan u → Plans t u → HoldsPlan t r c
added {t} A is P T = record { held = held_new A; normal = subst IsPlan (sym is) P; plan = subst (Plans t) (sym is) T }

primitive_built : {q : Plan} {b : PlanPrimitive} {u : Term} → BuildsPlan q (nodes.Primitive b) u → u ≡ primitive (primitive_over (plan_expressions q) b)
primitive_built (builds_primitive k) = refl

primitive_rewritten : (p : Program) (q r : Plan) (a : Primitive) (b : PlanPrimitive) {c : PlanId} → Extends (program_expressions p) (plan_expressions q) → HoldsTermParts p (ast.Primitive a) → CopiesPrimitive a b
    → AddsNode q r c (nodes.Primitive b) → HoldsPlan (term_of p (ast.Primitive a)) r c
primitive_rewritten p q r a b kept held copied A =
    let one = primitive (primitive_over (plan_expressions q) b) in
    added A (primitive_built A.builds) plan_primitive (subst (λ t. Plans t one) (same_primitive p q kept a b copied held) (plans of_primitive unchanged))

switching_rewritten : (p : Program) (q r : Plan) (m : TermId → PlanId) (n : Switch) {c : PlanId} → Extends (program_expressions p) (plan_expressions q) → ProgramHoldsPattern p n.pattern → HoldsPlan (tree p n.source) q (m n.source) → HoldsPlan (tree p n.body) q (m n.body)
    → AddsNode q r c (nodes.Switching (copied_switch m n)) → HoldsPlan (term_of p (ast.Switching n)) r c
switching_rewritten p q r m n {c} kept held P Q A =
    added A (built A.builds ∙ ap (λ x. switching n.form (plan_tree q (m n.source)) (pattern_of x) (plan_tree q (m n.body))) (pattern_same p q kept n.pattern held)) (plan_switch P.normal Q.normal) (plans (of_switch P.plan Q.plan) unchanged)
  where
    built : {u : Term} → BuildsPlan q (nodes.Switching (copied_switch m n)) u → u ≡ switching n.form (plan_tree q (m n.source)) (pattern_of (stored_pattern (plan_expressions q) n.pattern)) (plan_tree q (m n.body))
    built builds_switching = refl

continuing_rewritten : (p : Program) (q r : Plan) (m : TermId → PlanId) (n : Continuation) {c : PlanId} → Extends (program_expressions p) (plan_expressions q) → HoldsTermParts p (ast.Continuation n)
    → HoldsPlan (tree p n.source) q (m n.source) → HoldsPlan (tree p n.observer) q (m n.observer) → HoldsPlan (tree p n.body) q (m n.body) → AddsNode q r c (nodes.Continuation (copied_continuing m n)) → HoldsPlan (term_of p (ast.Continuation n)) r c
continuing_rewritten p q r m n {c} kept held P O Q A =
    added A (built A.builds ∙ ap₂ (λ x y. continuing n.shown (plan_tree q (m n.source)) (plan_tree q (m n.observer)) x (pattern_of y) (plan_tree q (m n.body))) (kept.names n.name held.2) (pattern_same p q kept n.pattern held.3)) (plan_continuing P.normal O.normal Q.normal) (plans (of_continuing P.plan O.plan Q.plan) unchanged)
  where
    built : {u : Term} → BuildsPlan q (nodes.Continuation (copied_continuing m n)) u
        → u ≡ continuing n.shown (plan_tree q (m n.source)) (plan_tree q (m n.observer)) (name_at (plan_expressions q) n.name) (pattern_of (stored_pattern (plan_expressions q) n.pattern)) (plan_tree q (m n.body))
    built builds_continuing = refl

-- ## Collections and calls

-- a term that is closed before other arguments
closed_plans : {t : Term} (u : Term) {vs ws : Arguments} → is_started t ≡ false → Plans t u → IsPlan u → PlansArguments vs ws → ArePlans ws → PlansArguments (process_argument t vs) (closed_before u ws) × ArePlans (closed_before u ws)
closed_plans (primitive p) h P N A B = (of_term_argument h refl P A, plan_term_argument N B)
closed_plans (reference (started w k)) h P N A B = (of_closed_argument h P A, plan_closed_argument N B)
closed_plans (reference (call g us)) h P N A B = (of_term_argument h refl P A, plan_term_argument N B)
closed_plans (joined j f g) h P N A B = (of_term_argument h refl P A, plan_term_argument N B)
closed_plans (sided d t) h P N A B = (of_term_argument h refl P A, plan_term_argument N B)
closed_plans (headed k i t) h P N A B = (of_term_argument h refl P A, plan_term_argument N B)
closed_plans (transformed f t) h P N A B = (of_term_argument h refl P A, plan_term_argument N B)
closed_plans (switching w t p u) h P N A B = (of_term_argument h refl P A, plan_term_argument N B)
closed_plans (continuing w t q k p u) h P N A B = (of_term_argument h refl P A, plan_term_argument N B)
closed_plans (gathered i) h P N A B = (of_term_argument h refl P A, plan_term_argument N B)
closed_plans (releasing w i q k p u) h P N A B = (of_term_argument h refl P A, plan_term_argument N B)
closed_plans (editing w i k p u) h P N A B = (of_term_argument h refl P A, plan_term_argument N B)
closed_plans (staged x f g) h P N A B = (of_term_argument h refl P A, plan_term_argument N B)

-- a node that is no named process
not_started : (p : Program) (n : Node) → named_process n ≡ None → is_started (term_of p n) ≡ false
not_started p (ast.Primitive (ast_primitives.Bare k)) h = refl
not_started p (ast.Primitive (ast_primitives.Never n)) h = refl
not_started p (ast.Primitive (ast_primitives.WithValue k e)) h = refl
not_started p (ast.Primitive (ast_primitives.Timed k q e)) h = refl
not_started p (ast.Primitive (ast_primitives.Selected k n)) h = refl
not_started p (ast.Primitive (ast_primitives.Arrow f)) h = refl
not_started p (ast.Primitive (ast_primitives.Accumulated k e f)) h = refl
not_started p (ast.Named (Process w) j s) h = absurd cc
not_started p (ast.Named Probe j s) h = refl
not_started p (ast.Call j a) h = refl
not_started p (ast.Joined j a b) h = refl
not_started p (ast.Sided d a) h = refl
not_started p (ast.Headed g e a) h = refl
not_started p (ast.Transformed f a) h = refl
not_started p (ast.Switching n) h = refl
not_started p (ast.Continuation n) h = refl
not_started p (ast.Gathered c) h = refl
not_started p (ast.Releasing n) h = refl
not_started p (ast.Editing n) h = refl

module _ (p : Program) (q : Plan) (ids : List PlanId) (kept : Extends (program_expressions p) (plan_expressions q)) (holds : HoldsPlans p q ids) where
  -- a collection with plans of its terms, in normal form
  abbrev AreRewritten : Collection → Collection → Type 0
  AreRewritten i j = PlansCollection i j × IsPlanned j

  collection_rewritten : (c : CollExpr) (d : PlanCollection) → CopiesCollection (id_of_term ids) c d → CollectionBelow (length ids) c → HoldsMembers p c → AreRewritten (collection_of p c) (plan_collection q d)
  collection_rewritten _ _ copies_empty below held = (of_without, planned_without)
  collection_rewritten _ _ (copies_used {k}) below held = subst (λ x. AreRewritten (used x) (used (name_at (plan_expressions q) k))) (kept.names k held) (of_used, planned_used)
  collection_rewritten _ _ (copies_added {c} {d} {e} {t} z) below held =
      let I = collection_rewritten c d z below.0 held.0 in
      let P = holds t below.1 in
      subst (λ v. AreRewritten (Trees.added (collection_of p c) v (tree p t)) (Trees.added (plan_collection q d) (plan_expression_at q e) (plan_tree q (id_of_term ids t)))) (value_same p q kept e held.1) (of_added I.0 P.plan, planned_added I.1 P.normal)
  collection_rewritten _ _ (copies_dropped {c} {d} {e} z) below held =
      let I = collection_rewritten c d z below held.0 in
      subst (λ v. AreRewritten (dropped (collection_of p c) v) (dropped (plan_collection q d) (plan_expression_at q e))) (value_same p q kept e held.1) (of_dropped I.0, planned_dropped I.1)
  collection_rewritten _ _ (copies_kept {c} {d} {f} z) below held =
      let I = collection_rewritten c d z below held.0 in
      subst (λ g. AreRewritten (Trees.kept (collection_of p c) g) (Trees.kept (plan_collection q d) (function_at (plan_expressions q) f))) (function_same p q kept f held.1) (of_kept I.0, planned_kept I.1)
  collection_rewritten _ _ (copies_chosen {c} {d} {g} {h} {e} y z) below held =
      let I = collection_rewritten c g y below.0 held.1 in
      let J = collection_rewritten d h z below.1 held.2 in
      subst (λ v. AreRewritten (chosen v (collection_of p c) (collection_of p d)) (chosen (plan_expression_at q e) (plan_collection q g) (plan_collection q h))) (value_same p q kept e held.0) (of_chosen I.0 J.0, planned_chosen I.1 J.1)

  gathered_rewritten : (r : Plan) (i : CollectionId) (m : Rc PlanCollection Global) {c : PlanId} → HoldsTermParts p (ast.Gathered i) → TermPartsBelow p (ast.Gathered i) (length ids) → CopiesCollection (id_of_term ids) (collection_node p i) m.value
      → AddsNode q r c (nodes.Gathered m) → HoldsPlan (term_of p (ast.Gathered i)) r c
  gathered_rewritten r i m held below z A =
      let I = collection_rewritten (collection_node p i) m.value z below held.1 in
      added A (built A.builds) (plan_gathered I.1) (plans (of_gathered I.0) unchanged)
    where
      built : {u : Term} → BuildsPlan q (nodes.Gathered m) u → u ≡ gathered (plan_collection q m.value)
      built (builds_gathered w) = refl

  releasing_rewritten : (r : Plan) (s : Releasing) (m : PlanReleasing) {c : PlanId} → HoldsTermParts p (ast.Releasing s) → TermPartsBelow p (ast.Releasing s) (length ids) → CopiesReleasing p (id_of_term ids) s m
      → AddsNode q r c (nodes.Releasing m) → HoldsPlan (term_of p (ast.Releasing s)) r c
  releasing_rewritten r s m held below z A =
      let I = collection_rewritten (collection_node p s.members) m.members.value z.members below.0 held.0.1 in
      let O = subst (HoldsPlan (tree p s.observer) q) (sym z.observer) (holds s.observer below.1) in
      let B = subst (HoldsPlan (tree p s.body) q) (sym z.body) (holds s.body below.2) in
      let name = ap (λ k. name_at (plan_expressions q) k) z.name ∙ kept.names s.name held.2 in
      let pattern = ap (λ i. stored_pattern (plan_expressions q) i) z.pattern ∙ pattern_same p q kept s.pattern held.3 in
      added A (built A.builds ∙ λ j. releasing (z.shown j) (plan_collection q m.members.value) (plan_tree q m.observer) (name j) (pattern_of (pattern j)) (plan_tree q m.body)) (plan_releasing I.1 O.normal B.normal) (plans (of_releasing I.0 O.plan B.plan) unchanged)
    where
      built : {u : Term} → BuildsPlan q (nodes.Releasing m) u → u ≡ releasing m.shown (plan_collection q m.members.value) (plan_tree q m.observer) (name_at (plan_expressions q) m.name) (pattern_of (stored_pattern (plan_expressions q) m.pattern)) (plan_tree q m.body)
      built (builds_releasing w) = refl

  editing_rewritten : (r : Plan) (s : Editing) (m : PlanEditing) {c : PlanId} → HoldsTermParts p (ast.Editing s) → TermPartsBelow p (ast.Editing s) (length ids) → CopiesEditing p (id_of_term ids) s m
      → AddsNode q r c (nodes.Editing m) → HoldsPlan (term_of p (ast.Editing s)) r c
  editing_rewritten r s m held below z A =
      let I = collection_rewritten (collection_node p s.members) m.members.value z.members below.0 held.0.1 in
      let J = collection_rewritten (collection_node p s.edit) m.edit.value z.edit below.1 held.3.1 in
      let name = ap (λ k. name_at (plan_expressions q) k) z.name ∙ kept.names s.name held.1 in
      let pattern = ap (λ i. stored_pattern (plan_expressions q) i) z.pattern ∙ pattern_same p q kept s.pattern held.2 in
      added A (built A.builds ∙ λ j. editing (z.shown j) (plan_collection q m.members.value) (name j) (pattern_of (pattern j)) (plan_collection q m.edit.value)) (plan_editing I.1 J.1) (plans (of_editing I.0 J.0) unchanged)
    where
      built : {u : Term} → BuildsPlan q (nodes.Editing m) u → u ≡ editing m.shown (plan_collection q m.members.value) (name_at (plan_expressions q) m.name) (pattern_of (stored_pattern (plan_expressions q) m.pattern)) (plan_collection q m.edit.value)
      built (builds_editing w) = refl

  arguments_rewritten : (vs : List Argument) (ws : List PlanArgument) → AllZip (CopiesArgument p (id_of_term ids)) vs ws → All (ArgumentBelow p (length ids)) vs → All (HoldsArgument p) vs
      → PlansArguments (arguments_of p vs) (plan_arguments q ws) × ArePlans (plan_arguments q ws)
  arguments_rewritten [] [] z below held = (of_no_arguments, plan_no_arguments)
  arguments_rewritten [] (w ∷ ws) z below held = absurd z
  arguments_rewritten (v ∷ vs) [] z below held = absurd z
  arguments_rewritten (v ∷ vs) (w ∷ ws) z below held =
      let more = arguments_rewritten vs ws z.1 (All-tail (ArgumentBelow p (length ids)) v vs below) (All-tail (HoldsArgument p) v vs held) in
      one v w z.0 (All-head (ArgumentBelow p (length ids)) v vs below) (All-head (HoldsArgument p) v vs held) more.0 more.1
    where
      Both : Arguments → Arguments → Type 0
      Both us xs = PlansArguments us xs × ArePlans xs

      one : (v : Argument) (w : PlanArgument) → CopiesArgument p (id_of_term ids) v w → ArgumentBelow p (length ids) v → HoldsArgument p v → PlansArguments (arguments_of p vs) (plan_arguments q ws) → ArePlans (plan_arguments q ws)
          → Both (arguments_of p (v ∷ vs)) (plan_arguments q (w ∷ ws))
      one _ _ (copies_value {e} {c = d}) b h A B = subst (λ i. Both (value_argument i (arguments_of p vs)) (plan_arguments q (plan_values.Value e d ∷ ws))) (value_same p q kept e h) (of_value_argument A, plan_value_argument B)
      one _ _ (copies_started {a} {w} {k} is) b h A B =
          let named = named_tree p a w k is in
          let same : tree p a ≡ reference (started w (name_at (plan_expressions q) k)) = named.0 ∙ ap (λ x. reference (started w x)) (sym (kept.names k named.1)) in
          subst (λ t. Both (process_argument t (arguments_of p vs)) (process_argument (reference (started w (name_at (plan_expressions q) k))) (plan_arguments q ws))) (sym same) (of_named_argument A, plan_term_argument plan_started B)
      one _ _ (copies_closed {a} is) b h A B =
          let P = holds a b in
          let none : is_started (tree p a) ≡ false = ap is_started (node_builds p a (term_node_at p a) refl) ∙ not_started p (term_node_at p a) is in
          closed_plans (plan_tree q (id_of_term ids a)) none P.plan P.normal A B
      one _ _ (copies_members {c} {r} z) b h A B = let I = collection_rewritten (collection_node p c) r.value z b h.1 in (of_collection_argument I.0 A, plan_collection_argument I.1 B)

  call_rewritten : (r : Plan) (k : NameId) (i : ArgumentsId) (g : TemplateId) (v : Vec PlanArgument Global) {c : PlanId} → HoldsTermParts p (ast.Call k i) → TermPartsBelow p (ast.Call k i) (length ids)
      → AllZip (CopiesArgument p (id_of_term ids)) (argument_nodes p i) v.items → AddsNode q r c (nodes.Call k g v) → HoldsPlan (term_of p (ast.Call k i)) r c
  call_rewritten r k i g v held below z A =
      let A' = arguments_rewritten (argument_nodes p i) v.items z below held.2 in
      added A (built A.builds ∙ ap (λ x. reference (call x (plan_arguments q v.items))) (kept.names k held.0)) (plan_call A'.1) (plans (of_call A'.0) unchanged)
    where
      built : {u : Term} → BuildsPlan q (nodes.Call k g v) u → u ≡ reference (call (name_at (plan_expressions q) k) (plan_arguments q v.items))
      built (builds_call is coded) = refl

  -- a node that keeps its form, with the plans of its parts
  pub form_kept : (r : Plan) (n : Node) (m : PlanNode) {c : PlanId} → keeps_form n ≡ true → HoldsTermParts p n → TermPartsBelow p n (length ids) → CopiesNode p (id_of_term ids) n m → AddsNode q r c m → HoldsPlan (term_of p n) r c
  form_kept r _ _ keeps held below (copies_primitive {q = a} {r = b} z) A = primitive_rewritten p q r a b kept held z A
  form_kept r _ _ keeps held below (copies_process {w} {k} {s}) A = added A (built A.builds ∙ ap (λ x. reference (started w x)) (kept.names k held)) plan_started (plans of_started unchanged)
    where
      built : {u : Term} → BuildsPlan q (nodes.Started w k) u → u ≡ reference (started w (name_at (plan_expressions q) k))
      built builds_started = refl
  form_kept r _ _ keeps held below (copies_probe {k} {s} {r = b} is) A = added A (built A.builds ∙ ap (λ x. primitive (probe x)) is) plan_primitive (plans of_primitive unchanged)
    where
      built : {u : Term} → BuildsPlan q (nodes.Probe b) u → u ≡ primitive (probe (string_bytes b.value))
      built builds_probe = refl
  form_kept r _ _ keeps held below (copies_call {k} {a} {g} {v} z) A = call_rewritten r k a g v held below z A
  form_kept r _ _ keeps held below copies_joined A = absurd (true≢false (sym keeps))
  form_kept r _ _ keeps held below copies_sided A = absurd (true≢false (sym keeps))
  form_kept r _ _ keeps held below copies_headed A = absurd (true≢false (sym keeps))
  form_kept r _ _ keeps held below (copies_transformed {f} {c = d} {a}) A =
      let P = holds a below in
      added A (built A.builds ∙ ap (λ g. transformed g (plan_tree q (id_of_term ids a))) (function_same p q kept f held.0)) (plan_transformed P.normal) (plans (of_transformed P.plan) unchanged)
    where
      built : {u : Term} → BuildsPlan q (nodes.Transformed f d (id_of_term ids a)) u → u ≡ transformed (function_at (plan_expressions q) f) (plan_tree q (id_of_term ids a))
      built (builds_transformed w) = refl
  form_kept r _ _ keeps held below (copies_switching {n}) A = switching_rewritten p q r (id_of_term ids) n kept held.1 (holds n.source below.0) (holds n.body below.1) A
  form_kept r _ _ keeps held below (copies_continuing {n}) A = continuing_rewritten p q r (id_of_term ids) n kept held (holds n.source below.0) (holds n.observer below.1) (holds n.body below.2) A
  form_kept r _ _ keeps held below (copies_gathered {c = i} {r = m} z) A = gathered_rewritten r i m held below z A
  form_kept r _ _ keeps held below (copies_releasing {s} {r = m} z) A = releasing_rewritten r s m held below z A
  form_kept r _ _ keeps held below (copies_editing {s} {r = m} z) A = editing_rewritten r s m held below z A

-- ## All terms

-- the plans of terms are held
pub are_held : (p : Program) (q : Plan) (ids : List PlanId) → HoldsPlans p q ids → StandBelow (id_of_term ids) (length ids) (node_count q)
are_held p q ids holds t below = (holds t below).held

pub part_of : (p : Program) (q : Plan) (ids : List PlanId) → HoldsPlans p q ids → (t : TermId) → term_number t < length ids → {a : PlanId} → a ≡ id_of_term ids t → HoldsPlan (tree p t) q a
part_of p q ids holds t below is = subst (HoldsPlan (tree p t) q) (sym is) (holds t below)

holds_still : {t : Term} {q r : Plan} {a : PlanId} → GrowsPlan q r → HoldsPlan t q a → HoldsPlan t r a
holds_still {t} {a = a} G P = record {
  held = omega (arith, P.held, G.keeps.count);
  normal = subst IsPlan (sym (G.keeps.trees a P.held)) P.normal;
  plan = subst (Plans t) (sym (G.keeps.trees a P.held)) P.plan;
}

-- one more plan stands behind the others
pub plans_more : (p : Program) (q r : Plan) (ids more : List PlanId) (a : PlanId) (t : TermId) → Added ids more a (term_number t) → GrowsPlan q r → HoldsPlans p q ids → HoldsPlan (tree p t) r a → HoldsPlans p r more
plans_more p q r ids more a t added G holds P u below = ⊎_elim before here (cases_lt (term_number u) (term_number t))
  where
    before : term_number u < term_number t → HoldsPlan (tree p u) r (id_of_term more u)
    before h =
        let old : term_number u < length ids = omega (arith, h, added.next) in
        subst (HoldsPlan (tree p u) r) (sym (item_kept _ _ _ _ added (term_number u) (record { 0 = 0 }) (omega (arith, h, added.next)))) (holds_still G (holds u old))

    here : term_number t ≤ term_number u → HoldsPlan (tree p u) r (id_of_term more u)
    here h =
        let n : term_number t ≡ term_number u = omega (arith, h, below, added_counted _ _ _ _ added, added.next) in
        let same : t ≡ u = ap (λ n. record { 0 = n }) n in
        let is : id_of_term more u ≡ a = ap (λ n. slice_index_or more n (record { 0 = 0 })) (sym n) ∙ added_item _ _ _ _ added (record { 0 = 0 }) in
        subst (HoldsPlan (tree p u) r) (sym is) (subst (λ t. HoldsPlan (tree p t) r a) same P)

-- before the first there is nothing
pub no_plans : (p : Program) (q : Plan) (ids : List PlanId) → ids ≡ [] → HoldsPlans p q ids
no_plans p q ids none t below = let n : length ids ≡ 0 = ap length none in let no_term : ⊥ = omega (arith, n, below) in absurd no_term
