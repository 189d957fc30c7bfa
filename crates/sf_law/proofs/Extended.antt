-- What builders keep of a plan.
use Rattle.std.proofs.Common.{◌≡◌, ℕ, suc, ◌+◌, ◌≤◌, List, [], ◌∷◌, length, map, Bool, true, false, not, cond, bytes_eq, unwrap_or, slice_index_or, Some, IsTrue, refl, sym, ◌∙◌, ap, subst, arith, ⊎_elim}
use mathlib.Core.Path.{ap₂}
use Rattle.std.proofs.lemmas.List.{get_or_past}
use Rattle.std.proofs.lemmas.Bool.{cases_lt, eqb-true}
use Rattle.sf_arena.specs.Folded.{folded_tree}
use Rattle.sf_arena.specs.Items.{Added}
use Rattle.sf_arena.proofs.Grown.{trees-length, added_counted, added_item, item_kept, tree_kept, tree_added}
use Rattle.sf_value.specs.Values.{Name}
use Rattle.sf_expr.specs.Arena.{name_at}
use Rattle.sf_term.specs.Entries.{identity_term}
use Rattle.sf_term.specs.Trees.{template_named}
use Rattle.sf_law.specs.declared.node.PlanId.{PlanId}
use Rattle.sf_law.specs.declared.node.PlanNode.{PlanNode}
use Rattle.sf_law.specs.declared.node.PlanNode.TheVariants as nodes
use Rattle.sf_law.specs.declared.plan.Plan.{Plan}
use Rattle.sf_law.specs.declared.node.TemplateId.{TemplateId}
use Rattle.sf_law.specs.Headers.{PlanHeader, place_named, no_header}
use Rattle.sf_law.specs.Held.{HoldsBeside}
use Rattle.sf_law.specs.Entries.{IsCoded, plan_over, parts_end, is_whole, calls_first, identity_node, node_among, plan_terms, plan_term}
use Rattle.sf_law.specs.Arena.{node_count, plan_asks, plan_node_at, plan_tree, BuildsPlan, plan_expressions, plan_headers, plan_template, header_at, IsCalled, builds_primitive, builds_started, builds_probe, builds_call, builds_joined, builds_sided, builds_headed, builds_transformed, builds_switching, builds_continuing, builds_gathered, builds_releasing, builds_editing, builds_pipeline, ExtendsPlan, AddsNode}
use Rattle.sf_law.specs.Asking.{is_asked}
use Rattle.sf_law.proofs.Placed.{term-built}

-- a plan asks for what its nodes ask for
pub asked_held : (p : Plan) (a : PlanId) → IsTrue (is_asked (plan_expressions p) (plan_headers p) (plan_asks p) (plan_node_at p a))
unfolding plan_node_at
asked_held p a = p.enough a.0

-- what is called by a name is the first template of that name, among these
first_called : (p : Plan) (x : Name) (hs : List PlanHeader) → plan_template p (slice_index_or hs (place_named x hs) no_header) ≡ unwrap_or (template_named x (map (plan_template p) hs)) (plan_template p no_header)
first_called p x [] = refl
first_called p x (h ∷ hs) = by (bytes_eq x h.name) (first_called p x hs)
  where
    by : (b : Bool) → plan_template p (slice_index_or hs (place_named x hs) no_header) ≡ unwrap_or (template_named x (map (plan_template p) hs)) (plan_template p no_header)
        → plan_template p (slice_index_or (h ∷ hs) (cond (not b) (1 + place_named x hs) 0) no_header) ≡ unwrap_or (cond b (Some (plan_template p h)) (template_named x (map (plan_template p) hs))) (plan_template p no_header)
    by true rest = refl
    by false rest = let next : 1 + place_named x hs ≡ suc (place_named x hs) = omega arith in ap (λ i. plan_template p (slice_index_or (h ∷ hs) i no_header)) next ∙ rest

-- the template of an id, where that is the first of a name, is what is called by the name
pub is_called : (p : Plan) (x : Name) (g : TemplateId) → g.0 ≡ place_named x (plan_headers p) → IsCalled p x (header_at p g)
is_called p x g e = ap (λ i. plan_template p (slice_index_or (plan_headers p) i no_header)) e ∙ first_called p x (plan_headers p)

-- a node stands for the term that is made of it
made : (p : Plan) (n : PlanNode) → IsTrue (is_whole n) → IsCoded p.expressions n → IsTrue (calls_first p.expressions p.templates.items n) → BuildsPlan p n (plan_over p.expressions (plan_terms p.expressions p.nodes.items) n)
unfolding plan_tree folded_tree
made p (nodes.Primitive q) w k f = builds_primitive k
made p (nodes.Started s i) w k f = builds_started
made p (nodes.Probe r) w k f = builds_probe
made p (nodes.Call i g v) w k f = builds_call (is_called p (name_at (plan_expressions p) i) g (eqb-true g.0 _ f)) k
made p (nodes.Joined j a b) w k f = builds_joined
made p (nodes.Sided d a) w k f = builds_sided
made p (nodes.Headed h e c a) w k f = builds_headed k
made p (nodes.Transformed g c a) w k f = builds_transformed k
made p (nodes.Switching n) w k f = builds_switching
made p (nodes.Continuation n) w k f = builds_continuing
made p (nodes.Gathered r) w k f = builds_gathered k
made p (nodes.Releasing s) w k f = builds_releasing k
made p (nodes.Editing s) w k f = builds_editing k
made p (nodes.Pipeline v) w k f = builds_pipeline w

-- a node stands for the term at its id
pub builds : (p : Plan) (a : PlanId) → BuildsPlan p (plan_node_at p a) (plan_tree p a)
unfolding plan_node_at plan_tree
builds p a = subst (λ t. BuildsPlan p (node_among p.nodes.items a.0) t) (sym (term-built p.expressions p.templates.items p.nodes.items a.0 p.arena)) (made p (node_among p.nodes.items a.0) (p.arena.wholes a.0) (p.arena.coded a.0) (p.arena.called a.0))

-- the parts of a node stand before it
pub parts_below : (p : Plan) (a : PlanId) → parts_end (plan_node_at p a) ≤ a.0
unfolding plan_node_at
parts_below p a = p.arena.in_order a.0

-- what a node names beside its parts is held
pub beside_held : (p : Plan) (a : PlanId) → HoldsBeside (plan_expressions p) (plan_node_at p a)
unfolding plan_node_at
beside_held p a = p.arena.beside a.0

-- the parts of a node are held
pub parts_held : (p : Plan) (a : PlanId) → parts_end (plan_node_at p a) ≤ node_count p
unfolding plan_node_at
parts_held p a = ⊎_elim (λ h. omega (arith, p.arena.in_order a.0)) (λ h. omega (arith, ap parts_end (get_or_past p.nodes.items a.0 identity_node h))) (cases_lt a.0 (length p.nodes.items))

-- the term at an id that the plan doesn't hold
pub tree_past : (p : Plan) (a : PlanId) → node_count p ≤ a.0 → plan_tree p a ≡ identity_term
unfolding plan_tree folded_tree
tree_past p a h = get_or_past (plan_terms p.expressions p.nodes.items) a.0 identity_term (omega (arith, trees-length (plan_over p.expressions) p.nodes.items))

-- a node that is added keeps the terms before it
pub added_keeps : (old new : Plan) (n : PlanNode) (a : ℕ) → new.expressions ≡ old.expressions → Added old.nodes.items new.nodes.items n a → ExtendsPlan old new
unfolding plan_node_at plan_tree
added_keeps old new n a same added = record {
  expressions = same;
  count = omega (arith, added_counted _ _ _ _ added);
  nodes = λ b h. item_kept _ _ _ _ added b.0 identity_node h;
  trees = λ b h. ap (λ x. plan_term x new.nodes.items b.0) same ∙ tree_kept _ _ _ _ added (plan_over old.expressions) identity_term b.0 h;
}

-- the same nodes keep the terms
pub same_keeps : (old new : Plan) → new.expressions ≡ old.expressions → new.nodes.items ≡ old.nodes.items → ExtendsPlan old new
unfolding plan_node_at plan_tree
same_keeps old new same nodes = record {
  expressions = same;
  count = omega (arith, ap length nodes);
  nodes = λ a h. ap (λ ns. node_among ns a.0) nodes;
  trees = λ a h. ap₂ (λ x ns. plan_term x ns a.0) same nodes;
}

-- a node that is added adds its term
pub adds_added : (old new : Plan) (n : PlanNode) (a : PlanId) → new.expressions ≡ old.expressions → Added old.nodes.items new.nodes.items n a.0 → IsTrue (is_whole n) → IsCoded old.expressions n
    → IsTrue (calls_first old.expressions old.templates.items n) → AddsNode old new a n
unfolding plan_node_at plan_tree
adds_added old new n a same added whole coded called = record {
  next = added.next;
  counted = added_counted _ _ _ _ added;
  is = added_item _ _ _ _ added identity_node;
  builds = subst (λ t. BuildsPlan old n t) (sym (ap (λ x. plan_term x new.nodes.items a.0) same ∙ tree_added _ _ _ _ added (plan_over old.expressions) identity_term)) (made old n whole coded called);
}
