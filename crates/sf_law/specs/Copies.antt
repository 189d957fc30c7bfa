-- What a plan copies of a program.
use Rattle.std.specs.Prelude.{◌≡◌, ℤ, Option, Some, None, Vec, String, string_bytes, slice_index_or}
use Rattle.std.specs.List.{AllZip}
use Rattle.std.specs.declared.rc.Rc.{Rc}
use Rattle.std.specs.declared.alloc.Global.{Global}
use Rattle.sf_value.specs.Values.{Kind}
use Rattle.sf_value.specs.declared.ty.KeyType.{KeyType}
use Rattle.sf_expr.specs.declared.exprs.ConstantId.{ConstantId}
use Rattle.sf_expr.specs.declared.exprs.ExprId.{ExprId}
use Rattle.sf_expr.specs.declared.exprs.FunctionId.{FunctionId}
use Rattle.sf_expr.specs.declared.exprs.NameId.{NameId}
use Rattle.sf_expr.specs.declared.exprs.Exprs.{Exprs}
use Rattle.sf_expr.specs.Patterns.{placed_name}
use Rattle.sf_expr.specs.Arena.{HoldsName, HoldsPattern, name_at, stored_pattern}
use Rattle.sf_term.specs.declared.form.Bare.{Bare}
use Rattle.sf_term.specs.declared.form.WithValue.{WithValue}
use Rattle.sf_term.specs.declared.form.Timing.{Timing}
use Rattle.sf_term.specs.declared.form.Selection.{Selection}
use Rattle.sf_term.specs.declared.form.Accumulation.{Accumulation}
use Rattle.sf_term.specs.declared.form.Join.{Join}
use Rattle.sf_term.specs.declared.form.Side.{Side}
use Rattle.sf_term.specs.declared.form.Heading.{Heading}
use Rattle.sf_term.specs.declared.form.Start.{Start}
use Rattle.sf_term.specs.declared.form.Naming.TheVariants.{Process, Probe}
use Rattle.sf_term.specs.declared.node.TermId.{TermId}
use Rattle.sf_term.specs.declared.node.ArgumentsId.{ArgumentsId}
use Rattle.sf_term.specs.declared.node.Argument.{Argument}
use Rattle.sf_term.specs.declared.node.Argument.TheVariants as arguments
use Rattle.sf_term.specs.declared.node.Switch.{Switch}
use Rattle.sf_term.specs.declared.node.Continuation.{Continuation}
use Rattle.sf_term.specs.declared.node.Releasing.{Releasing}
use Rattle.sf_term.specs.declared.node.Editing.{Editing}
use Rattle.sf_term.specs.declared.collection.CollectionId.{CollectionId}
use Rattle.sf_term.specs.declared.collection.CollExpr.{CollExpr}
use Rattle.sf_term.specs.declared.collection.CollExpr.TheVariants as stored
use Rattle.sf_term.specs.declared.node.Node.{Node}
use Rattle.sf_term.specs.declared.node.Node.TheVariants as terms
use Rattle.sf_term.specs.declared.node.Primitive.{Primitive}
use Rattle.sf_term.specs.declared.node.Primitive.TheVariants as primitives
use Rattle.sf_term.specs.declared.program.Program.{Program}
use Rattle.sf_term.specs.Parameters.{PlacedParameter}
use Rattle.sf_term.specs.Headers.{Header}
use Rattle.sf_term.specs.Arena.{program_expressions, term_number, term_node_at, argument_nodes, collection_node, tree}
use Rattle.sf_code.specs.declared.open.OpenCode.{OpenCode}
use Rattle.sf_law.specs.declared.node.PlanId.{PlanId}
use Rattle.sf_law.specs.declared.node.TemplateId.{TemplateId}
use Rattle.sf_law.specs.declared.node.PlanArgument.{PlanArgument}
use Rattle.sf_law.specs.declared.node.PlanArgument.TheVariants as plan_arguments
use Rattle.sf_law.specs.declared.node.PlanCollection.{PlanCollection}
use Rattle.sf_law.specs.declared.node.PlanCollection.TheVariants as plan_collections
use Rattle.sf_law.specs.declared.node.PlanSwitch.{PlanSwitch}
use Rattle.sf_law.specs.declared.node.PlanContinuation.{PlanContinuation}
use Rattle.sf_law.specs.declared.node.PlanReleasing.{PlanReleasing}
use Rattle.sf_law.specs.declared.node.PlanEditing.{PlanEditing}
use Rattle.sf_law.specs.declared.members.TermPlans.{TermPlans}
use Rattle.sf_law.specs.declared.members.TermPlans.TheVariants.{AsNumbered, Listed}
use Rattle.sf_law.specs.declared.node.PlanNode.{PlanNode}
use Rattle.sf_law.specs.declared.node.PlanNode.TheVariants as plans
use Rattle.sf_law.specs.declared.node.PlanPrimitive.{PlanPrimitive}
use Rattle.sf_law.specs.declared.node.PlanPrimitive.TheVariants as plan_primitives
use Rattle.sf_law.specs.declared.plan.Plan.{Plan}
use Rattle.sf_law.specs.Headers.{ParameterHeader, PlanHeader}
use Rattle.sf_law.specs.Arena.{plan_tree}

-- the id of the same number
abbrev pub plan_id : TermId → PlanId
plan_id t = record { 0 = t.0 }

-- the id under which a tree stands; the first one where none is listed for it
abbrev pub stands_under : TermPlans → TermId → PlanId
stands_under AsNumbered t = plan_id t
stands_under (Listed ids) t = slice_index_or ids.now (term_number t) (record { 0 = 0 })

-- A plan's primitive is a program's, whatever its code: of the same form, with the same id.
pub data CopiesPrimitive : Primitive → PlanPrimitive → Type 0 where
  copies_bare : {k : Bare} → CopiesPrimitive (primitives.Bare k) (plan_primitives.Bare k)
  copies_never : {n : ConstantId} → CopiesPrimitive (primitives.Never n) (plan_primitives.Never n)
  copies_with_value : {k : WithValue} {e : ExprId} {c : OpenCode} → CopiesPrimitive (primitives.WithValue k e) (plan_primitives.WithValue k e c)
  copies_timed : {k : Timing} {q : ℤ} {e : ExprId} {c : OpenCode} → CopiesPrimitive (primitives.Timed k q e) (plan_primitives.Timed k q e c)
  copies_selected : {k : Selection} {n : ℤ} → CopiesPrimitive (primitives.Selected k n) (plan_primitives.Selected k n)
  copies_accumulated : {k : Accumulation} {e : ExprId} {d : OpenCode} {f : FunctionId} {c : Rc OpenCode Global} → CopiesPrimitive (primitives.Accumulated k e f) (plan_primitives.Accumulated k e d f c)
  copies_arrow : {f : FunctionId} {c : Rc OpenCode Global} → CopiesPrimitive (primitives.Arrow f) (plan_primitives.Arrow f c)

-- where the process begins that a node is, and its name, if it is a named one
abbrev pub named_process : Node → Option (Start × NameId)
named_process (terms.Primitive q) = None
named_process (terms.Named (Process w) k s) = Some (w, k)
named_process (terms.Named Probe k s) = None
named_process (terms.Call k a) = None
named_process (terms.Joined j a b) = None
named_process (terms.Sided d a) = None
named_process (terms.Headed h e a) = None
named_process (terms.Transformed f a) = None
named_process (terms.Switching n) = None
named_process (terms.Continuation n) = None
named_process (terms.Gathered c) = None
named_process (terms.Releasing n) = None
named_process (terms.Editing n) = None

-- A plan's collection is a program's, whatever its code: of the same form, with the same ids of its names, expressions and
-- functions, and with these ids of its terms.
pub data CopiesCollection (m : TermId → PlanId) : CollExpr → PlanCollection → Type 0 where
  copies_empty : {k : KeyType} {t : Kind} {s : _} → CopiesCollection m (stored.Empty k t s) (plan_collections.Empty k t)
  copies_used : {k : NameId} {r s : _} → CopiesCollection m (stored.Used k r s) (plan_collections.Used k)
  copies_added : {a : _} {b : _} {c : CollExpr} {d : PlanCollection} {e : ExprId} {o : OpenCode} {t : TermId} {s : _} → CopiesCollection m c d → CopiesCollection m (stored.Added' a c e t s) (plan_collections.Added' b d e o (m t))
  copies_dropped : {a : _} {b : _} {c : CollExpr} {d : PlanCollection} {e : ExprId} {o : OpenCode} {s : _} → CopiesCollection m c d → CopiesCollection m (stored.Dropped' a c e s) (plan_collections.Dropped' b d e o)
  copies_kept : {a : _} {b : _} {c : CollExpr} {d : PlanCollection} {f : FunctionId} {o : OpenCode} {s : _} → CopiesCollection m c d → CopiesCollection m (stored.Kept' a c f s) (plan_collections.Kept' b d f o)
  copies_chosen : {a : _} {b : _} {y : _} {z : _} {c d : CollExpr} {g h : PlanCollection} {e : ExprId} {o : OpenCode} {s : _} → CopiesCollection m c g → CopiesCollection m d h → CopiesCollection m (stored.Chosen' e a c b d s) (plan_collections.Chosen' e o y g z h)

-- Members that give way, in a plan: with the same name and pattern, and with these ids of their terms.
pub record CopiesReleasing (p : Program) (m : TermId → PlanId) (s : Releasing) (r : PlanReleasing) : Type 0 where
  pub shown : r.shown ≡ s.shown
  pub members : CopiesCollection m (collection_node p s.members) r.members.value
  pub observer : r.observer ≡ m s.observer
  pub name : r.name ≡ s.name
  pub pattern : r.pattern ≡ s.pattern
  pub body : r.body ≡ m s.body

-- Members that are edited, likewise.
pub record CopiesEditing (p : Program) (m : TermId → PlanId) (s : Editing) (r : PlanEditing) : Type 0 where
  pub shown : r.shown ≡ s.shown
  pub members : CopiesCollection m (collection_node p s.members) r.members.value
  pub name : r.name ≡ s.name
  pub pattern : r.pattern ≡ s.pattern
  pub edit : CopiesCollection m (collection_node p s.edit) r.edit.value

-- the same switch, with these ids of its terms
abbrev pub copied_switch : (TermId → PlanId) → Switch → PlanSwitch
copied_switch m n = record { form = n.form; source = m n.source; pattern = n.pattern; body = m n.body }

-- the same of a switch that knows its source
abbrev pub copied_continuing : (TermId → PlanId) → Continuation → PlanContinuation
copied_continuing m n = record { shown = n.shown; source = m n.source; observer = m n.observer; name = n.name; pattern = n.pattern; body = m n.body }

-- A plan's argument is a program's, whatever its code: the same expression, the same named process, these ids of its terms.
pub data CopiesArgument (p : Program) (m : TermId → PlanId) : Argument → PlanArgument → Type 0 where
  copies_value : {e : ExprId} {c : OpenCode} → CopiesArgument p m (arguments.Value e) (plan_arguments.Value e c)
  copies_started : {a : TermId} {w : Start} {k : NameId} → named_process (term_node_at p a) ≡ Some (w, k) → CopiesArgument p m (arguments.Process a) (plan_arguments.Started w k)
  copies_closed : {a : TermId} → named_process (term_node_at p a) ≡ None → CopiesArgument p m (arguments.Process a) (plan_arguments.Closed (m a))
  copies_members : {c : CollectionId} {r : Rc PlanCollection Global} → CopiesCollection m (collection_node p c) r.value → CopiesArgument p m (arguments.Collection c) (plan_arguments.Collected r)

-- A plan's node is a program's, whatever its code and the template that it calls: of the same form, with the same ids of its
-- expressions, and with these ids of its terms.
pub data CopiesNode (p : Program) (m : TermId → PlanId) : Node → PlanNode → Type 0 where
  copies_primitive : {q : Primitive} {r : PlanPrimitive} → CopiesPrimitive q r → CopiesNode p m (terms.Primitive q) (plans.Primitive r)
  copies_process : {w : Start} {k : NameId} {s : _} → CopiesNode p m (terms.Named (Process w) k s) (plans.Started w k)
  copies_probe : {k : NameId} {s : _} {r : Rc (String Global) Global} → string_bytes r.value ≡ name_at (program_expressions p) k → CopiesNode p m (terms.Named Probe k s) (plans.Probe r)
  copies_call : {k : NameId} {a : ArgumentsId} {g : TemplateId} {v : Vec PlanArgument Global} → AllZip (CopiesArgument p m) (argument_nodes p a) v.items → CopiesNode p m (terms.Call k a) (plans.Call k g v)
  copies_joined : {j : Join} {a b : TermId} → CopiesNode p m (terms.Joined j a b) (plans.Joined j (m a) (m b))
  copies_sided : {d : Side} {a : TermId} → CopiesNode p m (terms.Sided d a) (plans.Sided d (m a))
  copies_switching : {n : Switch} → CopiesNode p m (terms.Switching n) (plans.Switching (copied_switch m n))
  copies_continuing : {n : Continuation} → CopiesNode p m (terms.Continuation n) (plans.Continuation (copied_continuing m n))
  copies_headed : {h : Heading} {e : ExprId} {c : OpenCode} {a : TermId} → CopiesNode p m (terms.Headed h e a) (plans.Headed h e c (m a))
  copies_transformed : {f : FunctionId} {c : OpenCode} {a : TermId} → CopiesNode p m (terms.Transformed f a) (plans.Transformed f c (m a))
  copies_gathered : {c : CollectionId} {r : Rc PlanCollection Global} → CopiesCollection m (collection_node p c) r.value → CopiesNode p m (terms.Gathered c) (plans.Gathered r)
  copies_releasing : {s : Releasing} {r : PlanReleasing} → CopiesReleasing p m s r → CopiesNode p m (terms.Releasing s) (plans.Releasing r)
  copies_editing : {s : Editing} {r : PlanEditing} → CopiesEditing p m s r → CopiesNode p m (terms.Editing s) (plans.Editing r)

-- A plan's parameter is a program's, with its name and the pattern that binds it among the expressions.
pub record CopiesParameter (x : Exprs) (q : PlacedParameter) (r : ParameterHeader) : Type 0 where
  pub name_held : HoldsName x r.name
  pub pattern_held : HoldsPattern x r.pattern
  pub named : name_at x r.name ≡ q.name
  pub bound : stored_pattern x r.pattern ≡ placed_name q.name q.spot
  pub kind : r.kind ≡ q.kind

-- A plan's template is a program's, with the id of the same number.
pub record CopiesTemplate (x : Exprs) (h : Header) (m : PlanHeader) : Type 0 where
  pub name : m.name ≡ h.name
  pub parameters : AllZip (CopiesParameter x) h.parameters m.parameters
  pub input : m.input ≡ h.input
  pub output : m.output ≡ h.output
  pub body : m.body ≡ plan_id h.body

-- a plan shows a program's terms under the ids of the same numbers
abbrev pub ShowsTerms : Program → Plan → Type 0
ShowsTerms p q = (t : TermId) → plan_tree q (plan_id t) ≡ tree p t
