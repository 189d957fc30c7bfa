-- What a program holds, an arena of more expressions holds too.
use Rattle.sf_expr.specs.declared.exprs.Exprs.{Exprs}
use Rattle.sf_expr.specs.Arena.{Extends}
use Rattle.sf_term.specs.declared.node.Node.TheVariants as nodes
use Rattle.sf_term.specs.declared.node.Primitive.{Primitive}
use Rattle.sf_term.specs.declared.node.Primitive.TheVariants as primitives
use Rattle.sf_term.specs.declared.collection.CollExpr.{CollExpr}
use Rattle.sf_term.specs.declared.collection.CollExpr.TheVariants as collections
use Rattle.sf_term.specs.declared.program.Program.{Program}
use Rattle.sf_term.specs.Arena.{program_expressions, HoldsTermParts, HoldsMembers}
use Rattle.sf_law.specs.Held.{HoldsPrimitive, HoldsCoded}

module _ (p : Program) (x : Exprs) (more : Extends (program_expressions p) x) where
  pub primitive_held : (q : Primitive) → HoldsTermParts p (nodes.Primitive q) → HoldsPrimitive x q
  primitive_held (primitives.Bare k) h = tt
  primitive_held (primitives.Never n) h = tt
  primitive_held (primitives.WithValue k e) h = more.holds e h
  primitive_held (primitives.Timed k q e) h = more.holds e h
  primitive_held (primitives.Selected k n) h = tt
  primitive_held (primitives.Arrow f) h = more.functions f h
  primitive_held (primitives.Accumulated k e f) h = (more.holds e h.0, more.functions f h.1)

  pub collection_coded : (c : CollExpr) → HoldsMembers p c → HoldsCoded x c
  collection_coded (collections.Empty k t s) h = tt
  collection_coded (collections.Used k r s) h = tt
  collection_coded (collections.Added' a c e t s) h = (collection_coded c h.0, more.holds e h.1)
  collection_coded (collections.Dropped' a c e s) h = (collection_coded c h.0, more.holds e h.1)
  collection_coded (collections.Kept' a c f s) h = (collection_coded c h.0, more.functions f h.1)
  collection_coded (collections.Chosen' e a c b d s) h = (more.holds e h.0, collection_coded c h.1, collection_coded d h.2)
