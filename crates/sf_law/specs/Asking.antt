-- The names for which it is asked what their processes began as.
use Rattle.std.specs.Prelude.{ℕ, Bool, true, false, not, ◌||◌, ◌&&◌, IsTrue, List, [], ◌∷◌, slice_index_or, Option, Some, None}
use Rattle.sf_value.specs.Values.{Name}
use Rattle.sf_expr.specs.declared.exprs.Exprs.{Exprs}
use Rattle.sf_expr.specs.Arena.{name_at}
use Rattle.sf_expr.specs.declared.exprs.NameId.{NameId}
use Rattle.sf_term.specs.declared.form.Start.{Start}
use Rattle.sf_term.specs.declared.form.Start.TheVariants.{Run, Fresh}
use Rattle.sf_law.specs.declared.node.PlanArgument.{PlanArgument}
use Rattle.sf_law.specs.declared.node.PlanArgument.TheVariants as arguments
use Rattle.sf_law.specs.declared.node.PlanNode.{PlanNode}
use Rattle.sf_law.specs.declared.node.PlanNode.TheVariants as nodes
use Rattle.sf_law.specs.declared.mentioned.Mentioned.{Mentioned}
use Rattle.sf_law.specs.Headers.{ParameterHeader, PlanHeader, no_header}
use Rattle.sf_law.specs.Entries.{node_among}
use Rattle.sf_law.specs.Mentioned.{is_mentioned}

-- A name is asked for by `fresh`, and by `run` where that hands its process on under a name that is.
abbrev pub start_asked : Bool → Bool → Start → Bool
start_asked handed own Run = not handed || own
start_asked handed own Fresh = own

-- The same of an argument for a parameter of this name. No form asks what a member of a collection began as.
abbrev pub argument_asked : Exprs → (Name → Bool) → Name → PlanArgument → Bool
argument_asked x asks y (arguments.Value e c) = true
argument_asked x asks y (arguments.Started w k) = start_asked (asks y) (asks (name_at x k)) w
argument_asked x asks y (arguments.Closed a) = true
argument_asked x asks y (arguments.Collected r) = true

-- the same of arguments, each for the parameter at its place
abbrev pub arguments_asked : Exprs → (Name → Bool) → List ParameterHeader → List PlanArgument → Bool
arguments_asked x asks [] vs = true
arguments_asked x asks (q ∷ qs) [] = true
arguments_asked x asks (q ∷ qs) (v ∷ vs) = argument_asked x asks (name_at x q.name) v && arguments_asked x asks qs vs

-- the same of a node, beside these templates; as a term, `run` hands nothing on
abbrev pub is_asked : Exprs → List PlanHeader → (Name → Bool) → PlanNode → Bool
is_asked x hs asks (nodes.Primitive q) = true
is_asked x hs asks (nodes.Started w k) = start_asked false (asks (name_at x k)) w
is_asked x hs asks (nodes.Probe r) = true
is_asked x hs asks (nodes.Call k g v) = arguments_asked x asks (slice_index_or hs g.0 no_header).parameters v.items
is_asked x hs asks (nodes.Joined j a c) = true
is_asked x hs asks (nodes.Sided d a) = true
is_asked x hs asks (nodes.Headed h e c a) = true
is_asked x hs asks (nodes.Transformed f c a) = true
is_asked x hs asks (nodes.Switching n) = true
is_asked x hs asks (nodes.Continuation n) = true
is_asked x hs asks (nodes.Gathered r) = true
is_asked x hs asks (nodes.Releasing s) = true
is_asked x hs asks (nodes.Editing s) = true
is_asked x hs asks (nodes.Pipeline v) = true

-- all names that nodes ask for are among these
abbrev pub AreAsked : Exprs → List PlanHeader → Mentioned → List PlanNode → Type 0
AreAsked x hs m ns = (i : ℕ) → IsTrue (is_asked x hs (is_mentioned x m) (node_among ns i))

-- these names are among others
abbrev pub AreAmong : Exprs → Mentioned → (Name → Bool) → Type 0
AreAmong e m asks = (x : Name) → IsTrue (is_mentioned e m x) → IsTrue (asks x)

-- Names are enough, or one is lacking: wherever these are among names that are enough, it is too.
abbrev pub IsLack : Exprs → ((Name → Bool) → Type 0) → Mentioned → Option NameId → Type 0
IsLack x IsEnough m None = IsEnough (is_mentioned x m)
IsLack x IsEnough m (Some k) = (asks : Name → Bool) → AreAmong x m asks → IsEnough asks → IsTrue (asks (name_at x k))
