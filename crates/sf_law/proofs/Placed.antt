-- The nodes of a plan, of which one more is put behind.
use Rattle.std.proofs.Common.{◌≡◌, ℕ, suc, ◌<◌, ◌≤◌, List, [], ◌∷◌, ◌++◌, length, map, Bool, true, false, cond, IsTrue, refl, sym, ◌∙◌, ap, subst, arith}
use mathlib.Core.Path.{ap₂}
use Rattle.std.proofs.lemmas.List.{get_or_append_left}
use Rattle.sf_arena.specs.Items.{Added}
use Rattle.sf_arena.proofs.Grown.{each_item, tree_made}
use Rattle.sf_expr.specs.declared.exprs.Exprs.{Exprs}
use Rattle.sf_expr.specs.Patterns.{pattern_of}
use Rattle.sf_expr.specs.Arena.{expression, function_at, name_at, stored_pattern}
use Rattle.sf_term.specs.Trees.{Term, reference, call, value_argument, process_argument, collection_argument, started, joined, sided, headed, transformed, switching, continuing, gathered, releasing, editing, added, dropped, kept, chosen}
use Rattle.sf_term.specs.Entries.{identity_term, term_among}
use Rattle.sf_law.specs.declared.node.PlanId.{PlanId}
use Rattle.sf_law.specs.declared.node.PlanArgument.{PlanArgument}
use Rattle.sf_law.specs.declared.node.PlanArgument.TheVariants as arguments
use Rattle.sf_law.specs.declared.node.PlanCollection.{PlanCollection}
use Rattle.sf_law.specs.declared.node.PlanCollection.TheVariants as collections
use Rattle.sf_law.specs.declared.node.PlanNode.{PlanNode}
use Rattle.sf_law.specs.declared.node.PlanNode.TheVariants as nodes
use Rattle.sf_law.specs.Headers.{PlanHeader}
use Rattle.sf_law.specs.Held.{HoldsBeside}
use Rattle.sf_law.specs.Entries.{closed_before, planned_arguments, planned_collection, collection_over, pipeline, IsCoded, plan_over, ids_end, collection_end, arguments_end, parts_end, is_whole, calls_first, identity_node, node_among, plan_terms, plan_term, ArePlanNodes}

part : (ts more : List Term) (i : ℕ) → suc i ≤ length ts → term_among (ts ++ more) i ≡ term_among ts i
part ts more i h = get_or_append_left ts more identity_term i (omega arith)

all-parts : (ts more : List Term) (ids : List PlanId) → ids_end ids ≤ length ts → map (λ (a : PlanId). term_among (ts ++ more) a.0) ids ≡ map (λ (a : PlanId). term_among ts a.0) ids
all-parts ts more [] h = refl
all-parts ts more (a ∷ ids) h = ap₂ (λ t us. t ∷ us) (part ts more a.0 (omega arith)) (all-parts ts more ids (omega arith))

-- a collection depends on the terms below its end alone
pub same_collection : (x : Exprs) (t u : PlanId → Term) (i : PlanCollection) → ((a : PlanId) → a.0 < collection_end i → t a ≡ u a) → planned_collection x t i ≡ planned_collection x u i
same_collection x t u (collections.Empty k s) h = refl
same_collection x t u (collections.Used k) h = refl
same_collection x t u (collections.Added' r i e c a) h = ap₂ (λ j f. added j (expression x e) f) (same_collection x t u i (λ b l. h b (omega arith))) (h a (omega arith))
same_collection x t u (collections.Dropped' r i e c) h = ap (λ j. dropped j (expression x e)) (same_collection x t u i h)
same_collection x t u (collections.Kept' r i f c) h = ap (λ j. kept j (function_at x f)) (same_collection x t u i h)
same_collection x t u (collections.Chosen' e c r i s j) h = ap₂ (λ a b. chosen (expression x e) a b) (same_collection x t u i (λ b l. h b (omega arith))) (same_collection x t u j (λ b l. h b (omega arith)))

-- arguments depend on the terms below their end alone
pub same_arguments : (x : Exprs) (t u : PlanId → Term) (vs : List PlanArgument) → ((a : PlanId) → a.0 < arguments_end vs → t a ≡ u a) → planned_arguments x t vs ≡ planned_arguments x u vs
same_arguments x t u [] h = refl
same_arguments x t u (arguments.Value e c ∷ vs) h = ap (λ ws. value_argument (expression x e) ws) (same_arguments x t u vs h)
same_arguments x t u (arguments.Started w k ∷ vs) h = ap (λ ws. process_argument (reference (started w (name_at x k))) ws) (same_arguments x t u vs h)
same_arguments x t u (arguments.Closed a ∷ vs) h = ap₂ (λ f ws. closed_before f ws) (h a (omega arith)) (same_arguments x t u vs (λ b l. h b (omega arith)))
same_arguments x t u (arguments.Collected r ∷ vs) h = ap₂ (λ i ws. collection_argument i ws) (same_collection x t u r.value (λ b l. h b (omega arith))) (same_arguments x t u vs (λ b l. h b (omega arith)))

members : (x : Exprs) (ts more : List Term) (i : PlanCollection) → collection_end i ≤ length ts → collection_over x (ts ++ more) i ≡ collection_over x ts i
members x ts more i h = same_collection x (λ (a : PlanId). term_among (ts ++ more) a.0) (λ (a : PlanId). term_among ts a.0) i (λ a l. part ts more a.0 (omega arith))

-- a node's term depends on its parts alone
local : (x : Exprs) (ts more : List Term) (n : PlanNode) → parts_end n ≤ length ts → plan_over x (ts ++ more) n ≡ plan_over x ts n
local x ts more (nodes.Primitive q) h = refl
local x ts more (nodes.Started w k) h = refl
local x ts more (nodes.Probe r) h = refl
local x ts more (nodes.Call k g v) h = ap (λ vs. reference (call (name_at x k) vs)) (same_arguments x (λ (a : PlanId). term_among (ts ++ more) a.0) (λ (a : PlanId). term_among ts a.0) v.items (λ a l. part ts more a.0 (omega arith)))
local x ts more (nodes.Joined j a b) h = ap₂ (λ s t. joined j s t) (part ts more a.0 (omega arith)) (part ts more b.0 (omega arith))
local x ts more (nodes.Sided d a) h = ap (λ t. sided d t) (part ts more a.0 h)
local x ts more (nodes.Headed k e c a) h = ap (λ t. headed k (expression x e) t) (part ts more a.0 h)
local x ts more (nodes.Transformed f c a) h = ap (λ t. transformed (function_at x f) t) (part ts more a.0 h)
local x ts more (nodes.Switching n) h = ap₂ (λ s t. switching n.form s (pattern_of (stored_pattern x n.pattern)) t) (part ts more n.source.0 (omega arith)) (part ts more n.body.0 (omega arith))
local x ts more (nodes.Continuation n) h =
    let name = name_at x n.name in
    let pattern = pattern_of (stored_pattern x n.pattern) in
    ap₂ (λ s r. continuing n.shown s r name pattern (term_among (ts ++ more) n.body.0)) (part ts more n.source.0 (omega arith)) (part ts more n.observer.0 (omega arith))
    ∙ ap (λ t. continuing n.shown (term_among ts n.source.0) (term_among ts n.observer.0) name pattern t) (part ts more n.body.0 (omega arith))
local x ts more (nodes.Gathered r) h = ap gathered (members x ts more r.value h)
local x ts more (nodes.Releasing s) h =
    let name = name_at x s.name in
    let pattern = pattern_of (stored_pattern x s.pattern) in
    ap₂ (λ i q. releasing s.shown i q name pattern (term_among (ts ++ more) s.body.0)) (members x ts more s.members.value (omega arith)) (part ts more s.observer.0 (omega arith))
    ∙ ap (λ u. releasing s.shown (collection_over x ts s.members.value) (term_among ts s.observer.0) name pattern u) (part ts more s.body.0 (omega arith))
local x ts more (nodes.Editing s) h =
    let name = name_at x s.name in
    let pattern = pattern_of (stored_pattern x s.pattern) in
    ap₂ (λ i u. editing s.shown i name pattern u) (members x ts more s.members.value (omega arith)) (members x ts more s.edit.value (omega arith))
local x ts more (nodes.Pipeline v) h = ap pipeline (all-parts ts more v.items h)

-- nothing is an arena
pub arena_empty : (x : Exprs) (hs : List PlanHeader) → ArePlanNodes x hs []
arena_empty x hs = record { in_order = λ i. omega arith; wholes = λ i. refl; coded = λ i. tt; called = λ i. refl; beside = λ i. tt }

-- the arena, where it may be that a node was put behind
pub arena_put : (x : Exprs) (hs : List PlanHeader) (old new : List PlanNode) (n : PlanNode) (put : Bool) → new ≡ cond put (old ++ n ∷ []) old → ArePlanNodes x hs old
    → parts_end n ≤ length old → IsTrue (is_whole n) → IsCoded x n → IsTrue (calls_first x hs n) → HoldsBeside x n → ArePlanNodes x hs new
arena_put x hs old new n true e a below whole coded called beside =
    let added : Added old new n (length old) = record { next = refl; grown = e } in
    record {
      in_order = each_item old new n _ added (λ i m. parts_end m ≤ i) identity_node a.in_order below;
      wholes = each_item old new n _ added (λ i m. IsTrue (is_whole m)) identity_node a.wholes whole;
      coded = each_item old new n _ added (λ i m. IsCoded x m) identity_node a.coded coded;
      called = each_item old new n _ added (λ i m. IsTrue (calls_first x hs m)) identity_node a.called called;
      beside = each_item old new n _ added (λ i m. HoldsBeside x m) identity_node a.beside beside;
    }
arena_put x hs old new n false e a below whole coded called beside = subst (λ ns. ArePlanNodes x hs ns) (sym e) a

-- the term at a place is made over all terms
pub term-built : (x : Exprs) (hs : List PlanHeader) (ns : List PlanNode) (i : ℕ) → ArePlanNodes x hs ns → plan_term x ns i ≡ plan_over x (plan_terms x ns) (node_among ns i)
term-built x hs ns i a = tree_made (plan_over x) parts_end identity_node (local x) ns identity_term (λ ts. refl) a.in_order i
