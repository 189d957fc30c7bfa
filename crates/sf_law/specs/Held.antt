-- What code is made of, and what stands beside it in a plan: an arena of expressions holds it.
use Rattle.std.specs.Prelude.{⊤}
use Rattle.sf_expr.specs.declared.exprs.Exprs.{Exprs}
use Rattle.sf_expr.specs.Arena.{Holds, HoldsFunction}
use Rattle.sf_term.specs.declared.node.Primitive.{Primitive}
use Rattle.sf_term.specs.declared.node.Primitive.TheVariants as primitives
use Rattle.sf_term.specs.declared.collection.CollExpr.{CollExpr}
use Rattle.sf_term.specs.declared.collection.CollExpr.TheVariants as collections
use Rattle.sf_law.specs.declared.node.PlanChain.{PlanChain}
use Rattle.sf_law.specs.declared.node.PlanChain.TheVariants as chains
use Rattle.sf_law.specs.declared.node.PlanPrimitive.{PlanPrimitive}
use Rattle.sf_law.specs.declared.node.PlanPrimitive.TheVariants as plan_primitives
use Rattle.sf_law.specs.declared.node.PlanNode.{PlanNode}
use Rattle.sf_law.specs.declared.node.PlanNode.TheVariants as nodes

-- the expression and the function of a primitive
abbrev pub HoldsPrimitive : Exprs → Primitive → Type 0
HoldsPrimitive x (primitives.Bare k) = ⊤
HoldsPrimitive x (primitives.Never n) = ⊤
HoldsPrimitive x (primitives.WithValue k e) = Holds x e
HoldsPrimitive x (primitives.Timed k q e) = Holds x e
HoldsPrimitive x (primitives.Selected k n) = ⊤
HoldsPrimitive x (primitives.Arrow f) = HoldsFunction x f
HoldsPrimitive x (primitives.Accumulated k e f) = Holds x e × HoldsFunction x f

-- the expressions and functions of a collection
abbrev pub HoldsCoded : Exprs → CollExpr → Type 0
HoldsCoded x (collections.Empty k t s) = ⊤
HoldsCoded x (collections.Used k r s) = ⊤
HoldsCoded x (collections.Added' a c e t s) = HoldsCoded x c × Holds x e
HoldsCoded x (collections.Dropped' a c e s) = HoldsCoded x c × Holds x e
HoldsCoded x (collections.Kept' a c f s) = HoldsCoded x c × HoldsFunction x f
HoldsCoded x (collections.Chosen' e a c b d s) = Holds x e × HoldsCoded x c × HoldsCoded x d

-- the functions that are made into one
abbrev pub HoldsChain : Exprs → PlanChain → Type 0
HoldsChain x (chains.Lone f c) = HoldsFunction x f
HoldsChain x (chains.Chained' a f b g) = HoldsChain x f × HoldsChain x g
HoldsChain x (chains.OnSide' d a f) = HoldsChain x f
HoldsChain x (chains.OnBoth' a f b g) = HoldsChain x f × HoldsChain x g
HoldsChain x (chains.Fanned' a f b g) = HoldsChain x f × HoldsChain x g

-- the expression and the functions of a primitive of a plan
abbrev pub HoldsPlanned : Exprs → PlanPrimitive → Type 0
HoldsPlanned x (plan_primitives.Bare k) = ⊤
HoldsPlanned x (plan_primitives.Never n) = ⊤
HoldsPlanned x (plan_primitives.WithValue k e c) = Holds x e
HoldsPlanned x (plan_primitives.Timed k q e c) = Holds x e
HoldsPlanned x (plan_primitives.Selected k n) = ⊤
HoldsPlanned x (plan_primitives.Arrow f c) = HoldsFunction x f
HoldsPlanned x (plan_primitives.Fused r) = HoldsChain x r.value
HoldsPlanned x (plan_primitives.Accumulated k e d f c) = Holds x e × HoldsFunction x f

-- the expression or the functions that a node names beside its parts
abbrev pub HoldsBeside : Exprs → PlanNode → Type 0
HoldsBeside x (nodes.Primitive q) = HoldsPlanned x q
HoldsBeside x (nodes.Headed h e c a) = Holds x e
HoldsBeside x (nodes.Transformed f c a) = HoldsFunction x f
HoldsBeside x n = ⊤
