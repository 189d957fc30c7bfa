-- What builders of a program answer.
use Rattle.std.specs.Prelude.{◌≡◌, ℕ, ◌<◌, ◌≤◌, Result, IfOk, IfErr, OnOk, OnErr}
use Rattle.sf_refusal.specs.declared.spot.Spot.{Spot}
use Rattle.sf_expr.specs.declared.exprs.ExprId.{ExprId}
use Rattle.sf_expr.specs.declared.exprs.ExprNode.{ExprNode}
use Rattle.sf_expr.specs.declared.exprs.Exprs.{Exprs}
use Rattle.sf_expr.specs.declared.exprs.NameId.{NameId}
use Rattle.sf_expr.specs.declared.exprs.PatternId.{PatternId}
use Rattle.sf_value.specs.Values.{Name}
use Rattle.sf_expr.specs.Arena.{name_at, HoldsName, next_name, stored_pattern, HoldsPattern, next_pattern}
use Rattle.sf_expr.specs.Patterns.{PlacedPattern}
use Rattle.sf_expr.specs.Expressions.{Expression}
use Rattle.sf_expr.specs.Expressions
use Rattle.sf_term.specs.declared.node.TermId.{TermId}
use Rattle.sf_term.specs.declared.node.Node.{Node}
use Rattle.sf_term.specs.declared.program.Program.{Program}
use Rattle.sf_term.specs.declared.refusal.BuildRefusal.{BuildRefusal}
use Rattle.sf_term.specs.declared.refusal.BuildRefusal.TheVariants.{TooMany, TooDeep, BadName, Memory}
use Rattle.sf_term.specs.Trees.{Term, term_depth}
use Rattle.sf_term.specs.Arena.{term_count, expression_count, ProgramHoldsPattern, placed_pattern, AddsTerm, AddsExpression, IsSameProgram}

-- where so many are there, one more that is so deep may be added, if its names are names
abbrev pub HasRoom : ℕ → ℕ → Type 0 → Type 0
HasRoom count depth Named = (count < 100000) × (depth ≤ 64) × Named

-- the refusal that is due: too many first, then too deep, then a bad name, and else want of memory alone
abbrev pub IsDue : ℕ → ℕ → Type 0 → BuildRefusal → Type 0
IsDue count depth Named TooMany = 100000 ≤ count
IsDue count depth Named TooDeep = (count < 100000) × (64 < depth)
IsDue count depth Named BadName = (count < 100000) × (depth ≤ 64) × ¬ Named
IsDue count depth Named Memory = HasRoom count depth Named

-- there is room for what is not refused, and a refusal is the one that is due
pub record RefusesDue {A : Type 0} (result : Result A BuildRefusal) (count depth : ℕ) (Named : Type 0) : Type 0 where
  pub room : OnOk result (HasRoom count depth Named)
  pub due : IfErr result (IsDue count depth Named)

-- What is built is made so, a refusal is the one that is due, and a refused call changes nothing.
pub record IsBuilt {A : Type 0} (old new : Program) (result : Result A BuildRefusal) (Made : A → Type 0) (count depth : ℕ) (Named : Type 0) : Type 0 where
  pub ok : IfOk result Made
  pub refused : RefusesDue result count depth Named
  pub err : OnErr result (IsSameProgram old new)

-- a term of a node is built, whose names are such
abbrev pub BuildsTerm : Program → Program → Result TermId BuildRefusal → Node → Term → Spot → Type 0 → Type 0
BuildsTerm old new result node whole spot Named = IsBuilt old new result (λ id. AddsTerm old new id node whole spot) (term_count old) (term_depth whole) Named

-- an expression of a node is built, whose names are such
abbrev pub BuildsExpression : Program → Program → Result ExprId BuildRefusal → ExprNode → Expression → Spot → Type 0 → Type 0
BuildsExpression old new result node whole spot Named = IsBuilt old new result (λ id. AddsExpression old new id node whole spot) (expression_count old) (Expressions.depth whole) Named

-- what is built has no names of its own
abbrev pub NoNames : Type 0
NoNames = Unit {0}

-- a pattern is held under an id
abbrev pub HasPattern : Program → PatternId → PlacedPattern → Type 0
HasPattern p q pattern = ProgramHoldsPattern p q × (placed_pattern p q ≡ pattern)

-- a name was put beside the expressions, and then a pattern
pub record PutsBoth (old new : Exprs) (ids : NameId × PatternId) (n : Name) (q : PlacedPattern) : Type 0 where
  pub next : ids ≡ (next_name old, next_pattern old)
  pub holds_name : HoldsName new ids.0
  pub holds_pattern : HoldsPattern new ids.1
  pub name_is : name_at new ids.0 ≡ n
  pub pattern_is : stored_pattern new ids.1 ≡ q
