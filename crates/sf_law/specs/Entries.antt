-- The nodes of an arena of plans.
use Rattle.std.specs.Prelude.{◌≡◌, ℕ, suc, ◌≤◌, max, Bool, true, nat_le, nat_eq, IsTrue, ⊤, List, [], ◌∷◌, length, map, slice_index_or, All, string_bytes}
use Rattle.sf_value.specs.KindView.{key_kind_of}
use Rattle.sf_expr.specs.declared.exprs.ExprId.{ExprId}
use Rattle.sf_expr.specs.declared.exprs.Exprs.{Exprs}
use Rattle.sf_expr.specs.Expressions.{named}
use Rattle.sf_expr.specs.Patterns.{pattern_of}
use Rattle.sf_expr.specs.Arena.{expression, function_at, name_at, literal_at, stored_pattern}
use Rattle.sf_arena.specs.Folded.{trees, folded_tree}
use Rattle.sf_term.specs.declared.form.Bare.TheVariants.{Identity}
use Rattle.sf_code.specs.declared.open.OpenCode.{OpenCode}
use Rattle.sf_code.specs.Worth.{IsCodeOf, IsCodeOfFunction}
use Rattle.sf_term.specs.Entries.{identity_term, absent_payload, term_among}
use Rattle.sf_term.specs.Trees.{Chain, lone, chained, on_side, on_both, fanned, fused, Extent, whole, rest, Primitive, Term, primitive, reference, started, call, probe, Arguments, no_arguments, value_argument, process_argument, closed_argument, collection_argument, joined, sided, headed, transformed, switching, continuing, gathered, releasing, editing, staged, Collection, without_members, used, added, dropped, kept, chosen, bare, never, with_value, timed, selected, arrow, accumulated}
use Rattle.sf_law.specs.declared.node.PlanId.{PlanId}
use Rattle.sf_law.specs.declared.node.PlanArgument.{PlanArgument}
use Rattle.sf_law.specs.declared.node.PlanArgument.TheVariants as arguments
use Rattle.sf_law.specs.declared.node.PlanChain.{PlanChain}
use Rattle.sf_law.specs.declared.node.PlanChain.TheVariants as chains
use Rattle.sf_law.specs.declared.node.PlanCollection.{PlanCollection}
use Rattle.sf_law.specs.declared.node.PlanCollection.TheVariants as collections
use Rattle.sf_law.specs.declared.node.PlanNode.{PlanNode}
use Rattle.sf_law.specs.declared.node.PlanNode.TheVariants as nodes
use Rattle.sf_law.specs.declared.node.PlanPrimitive.{PlanPrimitive}
use Rattle.sf_law.specs.declared.node.PlanPrimitive.TheVariants as primitives
use Rattle.sf_law.specs.Headers.{ParameterHeader, PlanHeader, place_named}
use Rattle.sf_law.specs.Held.{HoldsBeside}

-- a stage with those behind it
abbrev pub stages : Extent → Term → List Term → Term
stages x f [] = f
stages x f (g ∷ gs) = staged x f (stages rest g gs)

-- a pipeline of stages; the identity where there are none
abbrev pub pipeline : List Term → Term
pipeline [] = identity_term
pipeline (f ∷ fs) = stages whole f fs

-- functions made into one, over these functions
abbrev pub chain_over : Exprs → PlanChain → Chain
chain_over x (chains.Lone f c) = lone (function_at x f)
chain_over x (chains.Chained' a f b g) = chained (chain_over x f) (chain_over x g)
chain_over x (chains.OnSide' d a f) = on_side d (chain_over x f)
chain_over x (chains.OnBoth' a f b g) = on_both (chain_over x f) (chain_over x g)
chain_over x (chains.Fanned' a f b g) = fanned (chain_over x f) (chain_over x g)

-- the code that its functions have is theirs
abbrev pub IsCodedChain : Exprs → PlanChain → Type 0
IsCodedChain x (chains.Lone f c) = IsCodeOfFunction x (function_at x f) c.value
IsCodedChain x (chains.Chained' a f b g) = IsCodedChain x f × IsCodedChain x g
IsCodedChain x (chains.OnSide' d a f) = IsCodedChain x f
IsCodedChain x (chains.OnBoth' a f b g) = IsCodedChain x f × IsCodedChain x g
IsCodedChain x (chains.Fanned' a f b g) = IsCodedChain x f × IsCodedChain x g

-- the primitive that a primitive of a plan is, over these expressions and functions
abbrev pub primitive_over : Exprs → PlanPrimitive → Primitive
primitive_over x (primitives.Bare k) = bare k
primitive_over x (primitives.Never n) = never (absent_payload (literal_at x n))
primitive_over x (primitives.WithValue k e c) = with_value k (expression x e)
primitive_over x (primitives.Timed k q e c) = timed k q (expression x e)
primitive_over x (primitives.Selected k n) = selected k n
primitive_over x (primitives.Arrow f c) = arrow (function_at x f)
primitive_over x (primitives.Fused r) = fused (chain_over x r.value)
primitive_over x (primitives.Accumulated k e d f c) = accumulated k (expression x e) (function_at x f)

-- the code that a primitive has is that of its expression or its function
abbrev pub IsCodedPrimitive : Exprs → PlanPrimitive → Type 0
IsCodedPrimitive x (primitives.Bare k) = ⊤
IsCodedPrimitive x (primitives.Never n) = ⊤
IsCodedPrimitive x (primitives.WithValue k e c) = IsCodeOf x (expression x e) c
IsCodedPrimitive x (primitives.Timed k q e c) = IsCodeOf x (expression x e) c
IsCodedPrimitive x (primitives.Selected k n) = ⊤
IsCodedPrimitive x (primitives.Arrow f c) = IsCodeOfFunction x (function_at x f) c.value
IsCodedPrimitive x (primitives.Fused r) = IsCodedChain x r.value
IsCodedPrimitive x (primitives.Accumulated k e d f c) = IsCodeOf x (expression x e) d × IsCodeOfFunction x (function_at x f) c.value

-- the code that an expression has is that of the expression
abbrev pub IsCodedExpression : Exprs → ExprId → OpenCode → Type 0
IsCodedExpression x e c = IsCodeOf x (expression x e) c

-- the code that a collection has is that of its expressions and functions
abbrev pub IsCodedCollection : Exprs → PlanCollection → Type 0
IsCodedCollection x (collections.Empty k t) = ⊤
IsCodedCollection x (collections.Used k) = ⊤
IsCodedCollection x (collections.Added' r i e c a) = IsCodedCollection x i × IsCodeOf x (expression x e) c
IsCodedCollection x (collections.Dropped' r i e c) = IsCodedCollection x i × IsCodeOf x (expression x e) c
IsCodedCollection x (collections.Kept' r i f c) = IsCodedCollection x i × IsCodeOfFunction x (function_at x f) c
IsCodedCollection x (collections.Chosen' e c r i s j) = IsCodeOf x (expression x e) c × IsCodedCollection x i × IsCodedCollection x j

-- the code that an argument has is that of its expression or its collection
abbrev pub IsCodedArgument : Exprs → PlanArgument → Type 0
IsCodedArgument x (arguments.Value e c) = IsCodeOf x (expression x e) c
IsCodedArgument x (arguments.Started w k) = ⊤
IsCodedArgument x (arguments.Closed a) = ⊤
IsCodedArgument x (arguments.Collected r) = IsCodedCollection x r.value

-- the code that a node has is that of its expressions, its function or its collections
abbrev pub IsCoded : Exprs → PlanNode → Type 0
IsCoded x (nodes.Primitive q) = IsCodedPrimitive x q
IsCoded x (nodes.Started w k) = ⊤
IsCoded x (nodes.Probe r) = ⊤
IsCoded x (nodes.Call k g v) = All (IsCodedArgument x) v.items
IsCoded x (nodes.Joined j a b) = ⊤
IsCoded x (nodes.Sided d a) = ⊤
IsCoded x (nodes.Headed h e c a) = IsCodeOf x (expression x e) c
IsCoded x (nodes.Transformed f c a) = IsCodeOfFunction x (function_at x f) c
IsCoded x (nodes.Switching n) = ⊤
IsCoded x (nodes.Continuation n) = ⊤
IsCoded x (nodes.Gathered r) = IsCodedCollection x r.value
IsCoded x (nodes.Releasing s) = IsCodedCollection x s.members.value
IsCoded x (nodes.Editing s) = IsCodedCollection x s.members.value × IsCodedCollection x s.edit.value
IsCoded x (nodes.Pipeline v) = ⊤

-- Arguments with a term that is closed before them. Such a term is written as it is in a network, but for a named process: as an
-- argument of a network that is the process itself.
abbrev pub closed_before : Term → Arguments → Arguments
closed_before (primitive p) vs = process_argument (primitive p) vs
closed_before (reference (started w k)) vs = closed_argument (reference (started w k)) vs
closed_before (reference (call g ws)) vs = process_argument (reference (call g ws)) vs
closed_before (joined j f g) vs = process_argument (joined j f g) vs
closed_before (sided d t) vs = process_argument (sided d t) vs
closed_before (headed h i t) vs = process_argument (headed h i t) vs
closed_before (transformed f t) vs = process_argument (transformed f t) vs
closed_before (switching w t p u) vs = process_argument (switching w t p u) vs
closed_before (continuing w t q k p u) vs = process_argument (continuing w t q k p u) vs
closed_before (gathered i) vs = process_argument (gathered i) vs
closed_before (releasing w i q k p u) vs = process_argument (releasing w i q k p u) vs
closed_before (editing w i k p u) vs = process_argument (editing w i k p u) vs
closed_before (staged e f g) vs = process_argument (staged e f g) vs

-- a collection, with these terms at its ids
abbrev pub planned_collection : Exprs → (PlanId → Term) → PlanCollection → Collection
planned_collection x t (collections.Empty k s) = without_members (key_kind_of k) s
planned_collection x t (collections.Used k) = used (name_at x k)
planned_collection x t (collections.Added' r i e c a) = added (planned_collection x t i) (expression x e) (t a)
planned_collection x t (collections.Dropped' r i e c) = dropped (planned_collection x t i) (expression x e)
planned_collection x t (collections.Kept' r i f c) = kept (planned_collection x t i) (function_at x f)
planned_collection x t (collections.Chosen' e c r i s j) = chosen (expression x e) (planned_collection x t i) (planned_collection x t j)

-- arguments, with these terms at their ids
abbrev pub planned_arguments : Exprs → (PlanId → Term) → List PlanArgument → Arguments
planned_arguments x t [] = no_arguments
planned_arguments x t (arguments.Value e c ∷ vs) = value_argument (expression x e) (planned_arguments x t vs)
planned_arguments x t (arguments.Started w k ∷ vs) = process_argument (reference (started w (name_at x k))) (planned_arguments x t vs)
planned_arguments x t (arguments.Closed a ∷ vs) = closed_before (t a) (planned_arguments x t vs)
planned_arguments x t (arguments.Collected r ∷ vs) = collection_argument (planned_collection x t r.value) (planned_arguments x t vs)

-- the same over the terms before it
abbrev pub collection_over : Exprs → List Term → PlanCollection → Collection
collection_over x ts i = planned_collection x (λ (a : PlanId). term_among ts a.0) i

-- the term of a node, over the terms before it
abbrev pub plan_over : Exprs → List Term → PlanNode → Term
plan_over x ts (nodes.Primitive q) = primitive (primitive_over x q)
plan_over x ts (nodes.Started w k) = reference (started w (name_at x k))
plan_over x ts (nodes.Probe r) = primitive (probe (string_bytes r.value))
plan_over x ts (nodes.Call k g v) = reference (call (name_at x k) (planned_arguments x (λ (a : PlanId). term_among ts a.0) v.items))
plan_over x ts (nodes.Joined j a b) = joined j (term_among ts a.0) (term_among ts b.0)
plan_over x ts (nodes.Sided d a) = sided d (term_among ts a.0)
plan_over x ts (nodes.Headed h e c a) = headed h (expression x e) (term_among ts a.0)
plan_over x ts (nodes.Transformed f c a) = transformed (function_at x f) (term_among ts a.0)
plan_over x ts (nodes.Switching n) = switching n.form (term_among ts n.source.0) (pattern_of (stored_pattern x n.pattern)) (term_among ts n.body.0)
plan_over x ts (nodes.Continuation n) = continuing n.shown (term_among ts n.source.0) (term_among ts n.observer.0) (name_at x n.name) (pattern_of (stored_pattern x n.pattern)) (term_among ts n.body.0)
plan_over x ts (nodes.Gathered r) = gathered (collection_over x ts r.value)
plan_over x ts (nodes.Releasing s) = releasing s.shown (collection_over x ts s.members.value) (term_among ts s.observer.0) (name_at x s.name) (pattern_of (stored_pattern x s.pattern)) (term_among ts s.body.0)
plan_over x ts (nodes.Editing s) = editing s.shown (collection_over x ts s.members.value) (name_at x s.name) (pattern_of (stored_pattern x s.pattern)) (collection_over x ts s.edit.value)
plan_over x ts (nodes.Pipeline v) = pipeline (map (λ (a : PlanId). term_among ts a.0) v.items)

-- the least number above ids
abbrev pub ids_end : List PlanId → ℕ
ids_end [] = 0
ids_end (a ∷ bs) = max (suc a.0) (ids_end bs)

-- the least number above the ids of a collection
abbrev pub collection_end : PlanCollection → ℕ
collection_end (collections.Empty k t) = 0
collection_end (collections.Used k) = 0
collection_end (collections.Added' r i e c a) = max (suc a.0) (collection_end i)
collection_end (collections.Dropped' r i e c) = collection_end i
collection_end (collections.Kept' r i f c) = collection_end i
collection_end (collections.Chosen' e c r i s j) = max (collection_end i) (collection_end j)

-- the least number above the ids of arguments
abbrev pub arguments_end : List PlanArgument → ℕ
arguments_end [] = 0
arguments_end (arguments.Value e c ∷ vs) = arguments_end vs
arguments_end (arguments.Started w k ∷ vs) = arguments_end vs
arguments_end (arguments.Closed a ∷ vs) = max (suc a.0) (arguments_end vs)
arguments_end (arguments.Collected r ∷ vs) = max (collection_end r.value) (arguments_end vs)

-- the least number above the ids of a node's parts
abbrev pub parts_end : PlanNode → ℕ
parts_end (nodes.Primitive q) = 0
parts_end (nodes.Started w k) = 0
parts_end (nodes.Probe r) = 0
parts_end (nodes.Call k g v) = arguments_end v.items
parts_end (nodes.Joined j a b) = suc (max a.0 b.0)
parts_end (nodes.Sided d a) = suc a.0
parts_end (nodes.Headed h e c a) = suc a.0
parts_end (nodes.Transformed f c a) = suc a.0
parts_end (nodes.Switching n) = suc (max n.source.0 n.body.0)
parts_end (nodes.Continuation n) = suc (max (max n.source.0 n.observer.0) n.body.0)
parts_end (nodes.Gathered r) = collection_end r.value
parts_end (nodes.Releasing s) = max (collection_end s.members.value) (suc (max s.observer.0 s.body.0))
parts_end (nodes.Editing s) = max (collection_end s.members.value) (collection_end s.edit.value)
parts_end (nodes.Pipeline v) = ids_end v.items

-- a pipeline has two stages or more
abbrev pub is_whole : PlanNode → Bool
is_whole (nodes.Primitive q) = true
is_whole (nodes.Started w k) = true
is_whole (nodes.Probe r) = true
is_whole (nodes.Call k g v) = true
is_whole (nodes.Joined j a b) = true
is_whole (nodes.Sided d a) = true
is_whole (nodes.Headed h e c a) = true
is_whole (nodes.Transformed f c a) = true
is_whole (nodes.Switching n) = true
is_whole (nodes.Continuation n) = true
is_whole (nodes.Gathered r) = true
is_whole (nodes.Releasing s) = true
is_whole (nodes.Editing s) = true
is_whole (nodes.Pipeline v) = nat_le 2 (length v.items)

-- a call is of the first template of its name
abbrev pub calls_first : Exprs → List PlanHeader → PlanNode → Bool
calls_first x hs (nodes.Primitive q) = true
calls_first x hs (nodes.Started w k) = true
calls_first x hs (nodes.Probe r) = true
calls_first x hs (nodes.Call k g v) = nat_eq g.0 (place_named (name_at x k) hs)
calls_first x hs (nodes.Joined j a b) = true
calls_first x hs (nodes.Sided d a) = true
calls_first x hs (nodes.Headed h e c a) = true
calls_first x hs (nodes.Transformed f c a) = true
calls_first x hs (nodes.Switching n) = true
calls_first x hs (nodes.Continuation n) = true
calls_first x hs (nodes.Gathered r) = true
calls_first x hs (nodes.Releasing s) = true
calls_first x hs (nodes.Editing s) = true
calls_first x hs (nodes.Pipeline v) = true

-- the identity
abbrev pub identity_node : PlanNode
identity_node = nodes.Primitive (primitives.Bare Identity)

-- the node at a place; the identity past the end
abbrev pub node_among : List PlanNode → ℕ → PlanNode
node_among ns i = slice_index_or ns i identity_node

-- the terms of nodes
abbrev pub plan_terms : Exprs → List PlanNode → List Term
plan_terms x ns = trees (plan_over x) ns

-- the term at a place; the identity past the end
abbrev pub plan_term : Exprs → List PlanNode → ℕ → Term
plan_term x ns i = folded_tree (plan_over x) identity_term ns i

-- the pattern of a parameter binds its name alone
abbrev pub BindsName : Exprs → ParameterHeader → Type 0
BindsName x q = pattern_of (stored_pattern x q.pattern) ≡ named (name_at x q.name)

-- the patterns of a template's parameters bind their names
abbrev pub BindsNames : Exprs → PlanHeader → Type 0
BindsNames x h = All (BindsName x) h.parameters

-- What holds of the nodes of a plan over these expressions and functions, beside these templates.
pub record ArePlanNodes (x : Exprs) (hs : List PlanHeader) (ns : List PlanNode) : Type 0 where
  pub in_order : (i : ℕ) → parts_end (node_among ns i) ≤ i
  pub wholes : (i : ℕ) → IsTrue (is_whole (node_among ns i))
  pub coded : (i : ℕ) → IsCoded x (node_among ns i)
  pub called : (i : ℕ) → IsTrue (calls_first x hs (node_among ns i))
  pub beside : (i : ℕ) → HoldsBeside x (node_among ns i)
