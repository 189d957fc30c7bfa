-- Which stored functions expressions call.
use Rattle.std.specs.Prelude.{◌≡◌}
use Rattle.sf_func.specs.Registries.{TypesByName, types_named}
use Rattle.sf_refusal.specs.declared.spot.Spot.{Spot}
use Rattle.sf_expr.specs.declared.exprs.ExprId.{ExprId}
use Rattle.sf_expr.specs.declared.exprs.NameId.{NameId}
use Rattle.sf_expr.specs.declared.exprs.ExprNode.{ExprNode}
use Rattle.sf_expr.specs.declared.exprs.ExprNode.TheVariants as nodes
use Rattle.sf_expr.specs.declared.exprs.Exprs.{Exprs}
use Rattle.sf_expr.specs.Arena.{node_at, name_at}

-- the function that a node calls has the same types here and there, or is in neither
abbrev pub IsCalledAlike : Exprs → TypesByName → TypesByName → ExprNode → Type 0
IsCalledAlike x fs gs n = (g : NameId) (s : Spot) (a : ExprId) → n ≡ nodes.Called g s a → types_named (name_at x g) fs ≡ types_named (name_at x g) gs

-- so has each function that these expressions call
abbrev pub AreCalledAlike : Exprs → TypesByName → TypesByName → Type 0
AreCalledAlike x fs gs = (i : ExprId) → IsCalledAlike x fs gs (node_at x i)
