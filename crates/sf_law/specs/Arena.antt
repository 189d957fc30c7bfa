-- Plans, seen by their trees.
use Rattle.std.specs.Prelude.{◌≡◌, Bool, ℕ, ◌+◌, ◌<◌, ◌≤◌, List, length, map, nat_le, Option, Some, None, IsTrue, unwrap_or, slice_index_or, All, Vec, String, string_bytes}
use Rattle.sf_value.specs.Values.{Name}
use Rattle.std.specs.declared.rc.Rc.{Rc}
use Rattle.std.specs.declared.alloc.Global.{Global}
use Rattle.sf_func.specs.Registries.{AnswersByName}
use Rattle.sf_expr.specs.declared.exprs.ExprId.{ExprId}
use Rattle.sf_expr.specs.declared.exprs.Exprs.{Exprs}
use Rattle.sf_expr.specs.declared.exprs.numbers.Numbers.{Numbers}
use Rattle.sf_expr.specs.Expressions.{Expression}
use Rattle.sf_expr.specs.declared.exprs.FunctionId.{FunctionId}
use Rattle.sf_expr.specs.declared.exprs.NameId.{NameId}
use Rattle.sf_expr.specs.Patterns.{pattern_of}
use Rattle.sf_expr.specs.Arena.{expression, function_at, name_at, stored_pattern}
use Rattle.sf_term.specs.declared.form.Join.{Join}
use Rattle.sf_term.specs.declared.form.Start.{Start}
use Rattle.sf_term.specs.declared.form.Side.{Side}
use Rattle.sf_term.specs.declared.form.Heading.{Heading}
use Rattle.sf_code.specs.declared.open.OpenCode.{OpenCode}
use Rattle.sf_code.specs.Worth.{IsCodeOf, IsCodeOfFunction}
use Rattle.sf_term.specs.Trees.{Term, primitive, probe, reference, started, call, Arguments, joined, sided, headed, transformed, switching, continuing, gathered, releasing, editing, Collection, Template, Templates, template_named}
use Rattle.sf_term.specs.Parameters.{NameKind}
use Rattle.sf_mean.specs.Meaning.{Network}
use Rattle.sf_law.specs.declared.node.PlanId.{PlanId}
use Rattle.sf_law.specs.declared.node.ShortId.{ShortId}
use Rattle.sf_law.specs.declared.node.TemplateId.{TemplateId}
use Rattle.sf_law.specs.declared.node.PlanArgument.{PlanArgument}
use Rattle.sf_law.specs.declared.node.PlanCollection.{PlanCollection}
use Rattle.sf_law.specs.declared.node.PlanSwitch.{PlanSwitch}
use Rattle.sf_law.specs.declared.node.PlanContinuation.{PlanContinuation}
use Rattle.sf_law.specs.declared.node.PlanReleasing.{PlanReleasing}
use Rattle.sf_law.specs.declared.node.PlanEditing.{PlanEditing}
use Rattle.sf_law.specs.declared.node.PlanNode.{PlanNode}
use Rattle.sf_law.specs.declared.node.PlanPrimitive.{PlanPrimitive}
use Rattle.sf_law.specs.declared.node.PlanPrimitive.TheVariants as primitives
use Rattle.sf_law.specs.declared.node.PlanNode.TheVariants as nodes
use Rattle.sf_law.specs.declared.plan.Plan.{Plan}
use Rattle.sf_law.specs.declared.mentioned.Mentioned.{Mentioned}
use Rattle.sf_law.specs.declared.mentioned.Mentioned.TheVariants.{Names, Any}
use Rattle.sf_law.specs.Mentioned.{has_name, is_mentioned}
use Rattle.sf_law.specs.Asking.{is_asked}
use Rattle.sf_law.specs.Headers.{ParameterHeader, PlanHeader, no_header}
use Rattle.sf_law.specs.Entries.{primitive_over, IsCodedPrimitive, IsCodedArgument, IsCodedCollection, planned_arguments, planned_collection, pipeline, node_among, plan_term}

-- the number of an id
abbrev pub plan_number : PlanId → ℕ
plan_number id = id.0

-- the expressions and functions of a plan
abbrev pub plan_expressions : Plan → Exprs
plan_expressions p = p.expressions

-- the numbers of its names
abbrev pub plan_numbers : Plan → Numbers
plan_numbers p = p.numbering

-- the names for which a plan may ask what their processes began as
abbrev pub plan_asked : Plan → Mentioned
plan_asked p = p.asked

-- whether a plan may ask what a process of a name began as
abbrev pub plan_asks : Plan → Name → Bool
plan_asks p x = is_mentioned (plan_expressions p) (plan_asked p) x

-- the expression at an id; the number 0 where the plan holds none
abbrev pub plan_expression_at : Plan → ExprId → Expression
plan_expression_at p e = expression (plan_expressions p) e

-- how many terms a plan holds
abbrev pub node_count : Plan → ℕ
node_count p = length p.nodes.items

-- the node at an id, with the ids of its parts; the identity where the plan holds none
unfoldable pub plan_node_at : Plan → PlanId → PlanNode
plan_node_at p id = node_among p.nodes.items id.0

-- the term of a short id
abbrev pub full_id : ShortId → PlanId
full_id m = record { 0 = m.0 }

-- the code of the function, where a primitive is `arr`
abbrev pub arrow_code : PlanPrimitive → Option (Rc OpenCode Global)
arrow_code (primitives.Arrow f c) = Some c
arrow_code _ = None

-- the same of a node
abbrev pub node_arrow : PlanNode → Option (Rc OpenCode Global)
node_arrow (nodes.Primitive q) = arrow_code q
node_arrow _ = None

-- the term at an id; the identity where the plan holds none
unfoldable pub plan_tree : Plan → PlanId → Term
plan_tree p id = plan_term p.expressions p.nodes.items id.0

-- the terms at ids
abbrev pub plan_trees : Plan → List PlanId → List Term
plan_trees p ids = map (λ a. plan_tree p a) ids

-- the templates of a plan, whose bodies are ids, in order
abbrev pub plan_headers : Plan → List PlanHeader
plan_headers p = p.templates.items

-- the name of a parameter, with what it stands for
abbrev pub plan_binding : Plan → ParameterHeader → Name × NameKind
plan_binding p q = (name_at (plan_expressions p) q.name, q.kind)

-- a template with the tree of its body
abbrev pub plan_template : Plan → PlanHeader → Template
plan_template p h = record { name = h.name; parameters = map (plan_binding p) h.parameters; input = h.input; output = h.output; body = plan_tree p h.body }

-- the templates of a plan, in order
abbrev pub plan_templates : Plan → Templates
plan_templates p = map (plan_template p) (plan_headers p)

-- all names that a plan asks for are among these
abbrev pub IsEnough : Plan → (Name → Bool) → Type 0
IsEnough p asks = (a : PlanId) → IsTrue (is_asked (plan_expressions p) (plan_headers p) asks (plan_node_at p a))

-- a plan asks for a name: it is among all names that are enough
abbrev pub IsAsked : Plan → Name → Type 0
IsAsked p x = (asks : Name → Bool) → IsEnough p asks → IsTrue (asks x)

-- a plan asks for each name of a list; where that is any name, it asks for one at least
abbrev pub AsksOnly : Plan → Mentioned → Type 0
AsksOnly p (Names v) = (x : Name) → IsTrue (has_name (plan_expressions p) v.items x) → IsAsked p x
AsksOnly p Any = (x : Name) × IsAsked p x

-- the number of a template's id
abbrev pub template_number : TemplateId → ℕ
template_number g = g.0

-- the template at an id; one without parameters that passes its inputs on where the plan holds none
abbrev pub header_at : Plan → TemplateId → PlanHeader
header_at p g = slice_index_or (plan_headers p) g.0 no_header

-- a template is what is called by a name: the first of that name, or, where none has it, one that passes its inputs on
abbrev pub IsCalled : Plan → Name → PlanHeader → Type 0
IsCalled p x h = plan_template p h ≡ unwrap_or (template_named x (plan_templates p)) (plan_template p no_header)

-- the arguments of a call, with the trees of their terms
abbrev pub plan_arguments : Plan → List PlanArgument → Arguments
plan_arguments p vs = planned_arguments (plan_expressions p) (plan_tree p) vs

-- a collection, with the trees of its terms
abbrev pub plan_collection : Plan → PlanCollection → Collection
plan_collection p i = planned_collection (plan_expressions p) (plan_tree p) i

-- the network of a plan, where stored functions answer this
abbrev pub network_of_plan : AnswersByName → Plan → Network
network_of_plan f p = record { templates = plan_templates p; functions = f }

-- the term that is run
abbrev pub plan_main : Plan → PlanId
plan_main p = p.main

-- A node with the ids of its parts stands for a term with their trees; the code that it has is that of its expressions, its function or its collections.
pub data BuildsPlan (p : Plan) : PlanNode → Term → Type 0 where
  builds_primitive : {q : PlanPrimitive} → IsCodedPrimitive (plan_expressions p) q → BuildsPlan p (nodes.Primitive q) (primitive (primitive_over (plan_expressions p) q))
  builds_started : {w : Start} {k : NameId} → BuildsPlan p (nodes.Started w k) (reference (started w (name_at (plan_expressions p) k)))
  builds_probe : {r : Rc (String Global) Global} → BuildsPlan p (nodes.Probe r) (primitive (probe (string_bytes r.value)))
  builds_call : {k : NameId} {g : TemplateId} {v : Vec PlanArgument Global} → IsCalled p (name_at (plan_expressions p) k) (header_at p g) → All (IsCodedArgument (plan_expressions p)) v.items
      → BuildsPlan p (nodes.Call k g v) (reference (call (name_at (plan_expressions p) k) (plan_arguments p v.items)))
  builds_joined : {j : Join} {a b : PlanId} → BuildsPlan p (nodes.Joined j a b) (joined j (plan_tree p a) (plan_tree p b))
  builds_sided : {d : Side} {a : PlanId} → BuildsPlan p (nodes.Sided d a) (sided d (plan_tree p a))
  builds_headed : {h : Heading} {e : ExprId} {c : OpenCode} {a : PlanId} → IsCodeOf (plan_expressions p) (plan_expression_at p e) c → BuildsPlan p (nodes.Headed h e c a) (headed h (plan_expression_at p e) (plan_tree p a))
  builds_transformed : {f : FunctionId} {c : OpenCode} {a : PlanId} → IsCodeOfFunction (plan_expressions p) (function_at (plan_expressions p) f) c → BuildsPlan p (nodes.Transformed f c a) (transformed (function_at (plan_expressions p) f) (plan_tree p a))
  builds_switching : {n : PlanSwitch} → BuildsPlan p (nodes.Switching n) (switching n.form (plan_tree p n.source) (pattern_of (stored_pattern (plan_expressions p) n.pattern)) (plan_tree p n.body))
  builds_continuing : {n : PlanContinuation} → BuildsPlan p (nodes.Continuation n) (continuing n.shown (plan_tree p n.source) (plan_tree p n.observer) (name_at (plan_expressions p) n.name) (pattern_of (stored_pattern (plan_expressions p) n.pattern)) (plan_tree p n.body))
  builds_gathered : {r : Rc PlanCollection Global} → IsCodedCollection (plan_expressions p) r.value → BuildsPlan p (nodes.Gathered r) (gathered (plan_collection p r.value))
  builds_releasing : {s : PlanReleasing} → IsCodedCollection (plan_expressions p) s.members.value
      → BuildsPlan p (nodes.Releasing s) (releasing s.shown (plan_collection p s.members.value) (plan_tree p s.observer) (name_at (plan_expressions p) s.name) (pattern_of (stored_pattern (plan_expressions p) s.pattern)) (plan_tree p s.body))
  builds_editing : {s : PlanEditing} → IsCodedCollection (plan_expressions p) s.members.value × IsCodedCollection (plan_expressions p) s.edit.value
      → BuildsPlan p (nodes.Editing s) (editing s.shown (plan_collection p s.members.value) (name_at (plan_expressions p) s.name) (pattern_of (stored_pattern (plan_expressions p) s.pattern)) (plan_collection p s.edit.value))
  builds_pipeline : {v : Vec PlanId Global} → IsTrue (nat_le 2 (length v.items)) → BuildsPlan p (nodes.Pipeline v) (pipeline (plan_trees p v.items))

-- Terms that a plan held are there as they were, over the same expressions.
pub record ExtendsPlan (old new : Plan) : Type 0 where
  pub expressions : plan_expressions new ≡ plan_expressions old
  pub count : node_count old ≤ node_count new
  pub nodes : (a : PlanId) → plan_number a < node_count old → plan_node_at new a ≡ plan_node_at old a
  pub trees : (a : PlanId) → plan_number a < node_count old → plan_tree new a ≡ plan_tree old a

-- a term was added under an id, that of the next number
pub record AddsNode (old new : Plan) (a : PlanId) (node : PlanNode) : Type 0 where
  pub next : plan_number a ≡ node_count old
  pub counted : node_count new ≡ node_count old + 1
  pub is : plan_node_at new a ≡ node
  pub builds : BuildsPlan old node (plan_tree new a)
