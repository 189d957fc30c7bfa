-- Which types differ in an expression that is refused, and where.
use Rattle.std.specs.Prelude.{◌≡◌, Some}
use Rattle.sf_value.specs.Values.{Kind, pair_kind, IsNoPair}
use Rattle.sf_refusal.specs.declared.spot.Spot.{Spot}
use Rattle.sf_refusal.specs.declared.rule.Rule.TheVariants.{Mismatch}
use Rattle.sf_refusal.specs.Refusals.{breach_of}
use Rattle.sf_func.specs.Registries.{FunctionTypes, types_named}
use Rattle.sf_operator.specs.declared.operator.Operator.{Operator}
use Rattle.sf_operator.specs.declared.operator.Unary.{Unary}
use Rattle.sf_operator.specs.Kinds.{unary_kind, binary_kind, conditional_kind, mapped_argument, mapped_kind, called_kind, folded_argument, folded_kind}
use Rattle.sf_expr.specs.declared.exprs.ExprId.{ExprId}
use Rattle.sf_expr.specs.declared.exprs.NameId.{NameId}
use Rattle.sf_expr.specs.declared.exprs.Mapped.{Mapped}
use Rattle.sf_expr.specs.declared.exprs.Folded.{Folded}
use Rattle.sf_expr.specs.declared.exprs.FunctionId.{FunctionId}
use Rattle.sf_expr.specs.declared.exprs.ExprNode.{ExprNode}
use Rattle.sf_expr.specs.declared.exprs.ExprNode.TheVariants as nodes
use Rattle.sf_expr.specs.declared.exprs.Exprs.{Exprs}
use Rattle.sf_expr.specs.Expressions.{Pattern, both}
use Rattle.sf_expr.specs.Patterns.{PlacedPattern, pattern_of}
use Rattle.sf_expr.specs.Arena.{expression, node_at, spot_at, name_at, stored_pattern, argument_pattern, body_id}
use Rattle.sf_expr.specs.Typing.{Names, Fits, functions_of, Binds, HasType}
use Rattle.sf_expr.specs.Refusals.{PatternRefused}
use Rattle.sf_differ.specs.declared.difference.Difference.{Difference}
use Rattle.sf_differ.specs.declared.difference.Wanted.TheVariants.{Pair}
use Rattle.sf_differ.specs.Differences.{DiffersAt}
use Rattle.sf_differ.specs.Wanting.{IsMade}

-- A part of a type is none of pairs, where a part of a pattern is a pair.
pub data Unpaired : Pattern → Kind → Kind → Type 0 where
  unpaired : {p q : Pattern} {t : Kind} → IsNoPair t → Unpaired (both p q) t t
  unpaired_first : {p q : Pattern} {t u a : Kind} → Unpaired p t a → Unpaired (both p q) (pair_kind t u) a
  unpaired_second : {p q : Pattern} {t u a : Kind} → Unpaired q u a → Unpaired (both p q) (pair_kind t u) a

-- A pattern for a type is refused since a part of the type is none of pairs.
pub record PatternDiffers (p : PlacedPattern) (a : Kind) (at : Spot) (d : Difference) : Type 0 where
  pub refused : PatternRefused p a at (breach_of Mismatch d.spot)
  pub part : Unpaired (pattern_of p) a d.found
  pub wanted : d.wanted ≡ Pair

-- In the form of a node at a spot, whose parts have types, one of these differs.
pub data NodeDiffers (x : Exprs) (R : Names) (s : Spot) : ExprNode → Difference → Type 0 where
  operand_differs : {o : Unary} {i : ExprId} {t : Kind} {d : Difference}
      → HasType R (expression x i) t → DiffersAt (λ a. IsMade (unary_kind o a)) s t d → NodeDiffers x R s (nodes.Applied o i) d
  left_differs : {op : Operator} {i j : ExprId} {t u : Kind} {d : Difference}
      → HasType R (expression x i) t → HasType R (expression x j) u → DiffersAt (λ a. (b : Kind) × IsMade (binary_kind op a b)) s t d → NodeDiffers x R s (nodes.Operation i op j) d
  right_differs : {op : Operator} {i j : ExprId} {t u : Kind} {d : Difference}
      → HasType R (expression x i) t → HasType R (expression x j) u → DiffersAt (λ b. IsMade (binary_kind op t b)) s u d → NodeDiffers x R s (nodes.Operation i op j) d
  condition_differs : {i j k : ExprId} {c t u : Kind} {d : Difference}
      → HasType R (expression x i) c → HasType R (expression x j) t → HasType R (expression x k) u
      → DiffersAt (λ a. (b : Kind) × (e : Kind) × IsMade (conditional_kind a b e)) s c d → NodeDiffers x R s (nodes.Conditional i j k) d
  other_differs : {i j k : ExprId} {c t u : Kind} {d : Difference}
      → HasType R (expression x i) c → HasType R (expression x j) t → HasType R (expression x k) u
      → DiffersAt (λ e. IsMade (conditional_kind c t e)) s u d → NodeDiffers x R s (nodes.Conditional i j k) d
  mapping_differs : {n : Mapped} {t : Kind} {d : Difference}
      → HasType R (expression x n.part) t → DiffersAt (λ a. IsMade (mapped_argument n.mapping a)) s t d → NodeDiffers x R s (nodes.Mapped n) d
  mapped_pattern_differs : {n : Mapped} {t a : Kind} {d : Difference}
      → HasType R (expression x n.part) t → mapped_argument n.mapping t ≡ Some a → Fits a → PatternDiffers (stored_pattern x n.pattern) a s d → NodeDiffers x R s (nodes.Mapped n) d
  mapped_differs : {n : Mapped} {t a u : Kind} {S : Names} {d : Difference}
      → HasType R (expression x n.part) t → mapped_argument n.mapping t ≡ Some a → Fits a → Binds (pattern_of (stored_pattern x n.pattern)) a R S → HasType S (expression x n.body) u
      → DiffersAt (λ b. IsMade (mapped_kind n.mapping t b)) s u d → NodeDiffers x R s (nodes.Mapped n) d
  folding_differs : {n : Folded} {t u : Kind} {d : Difference}
      → HasType R (expression x n.first) t → HasType R (expression x n.second) u → DiffersAt (λ a. (b : Kind) × IsMade (folded_argument n.folding a b)) s t d → NodeDiffers x R s (nodes.Folded n) d
  folded_pattern_differs : {n : Folded} {t u a : Kind} {d : Difference}
      → HasType R (expression x n.first) t → HasType R (expression x n.second) u → folded_argument n.folding t u ≡ Some a → Fits a → PatternDiffers (stored_pattern x n.pattern) a s d
      → NodeDiffers x R s (nodes.Folded n) d
  second_differs : {n : Folded} {t u a v : Kind} {S : Names} {d : Difference}
      → HasType R (expression x n.first) t → HasType R (expression x n.second) u → folded_argument n.folding t u ≡ Some a → Fits a → Binds (pattern_of (stored_pattern x n.pattern)) a R S → HasType S (expression x n.body) v
      → DiffersAt (λ b. (c : Kind) × IsMade (folded_kind n.folding t b c)) s u d → NodeDiffers x R s (nodes.Folded n) d
  folded_differs : {n : Folded} {t u a v : Kind} {S : Names} {d : Difference}
      → HasType R (expression x n.first) t → HasType R (expression x n.second) u → folded_argument n.folding t u ≡ Some a → Fits a → Binds (pattern_of (stored_pattern x n.pattern)) a R S → HasType S (expression x n.body) v
      → DiffersAt (λ c. IsMade (folded_kind n.folding t u c)) s v d → NodeDiffers x R s (nodes.Folded n) d
  called_differs : {g : NameId} {n : Spot} {i : ExprId} {fs : FunctionTypes} {t : Kind} {d : Difference}
      → HasType R (expression x i) t → types_named (name_at x g) (functions_of R) ≡ Some fs → DiffersAt (λ a. IsMade (called_kind fs.from fs.to a)) s t d → NodeDiffers x R s (nodes.Called g n i) d

-- In a form, a part is typed next, under names: what stands before it has types.
pub data ReachesPart (x : Exprs) (R : Names) : ExprNode → Names → ExprId → Type 0 where
  pair_first : {i j : ExprId} → ReachesPart x R (nodes.Pair i j) R i
  pair_second : {i j : ExprId} {t : Kind} → HasType R (expression x i) t → ReachesPart x R (nodes.Pair i j) R j
  operand_part : {o : Unary} {i : ExprId} → ReachesPart x R (nodes.Applied o i) R i
  left_part : {op : Operator} {i j : ExprId} → ReachesPart x R (nodes.Operation i op j) R i
  right_part : {op : Operator} {i j : ExprId} {t : Kind} → HasType R (expression x i) t → ReachesPart x R (nodes.Operation i op j) R j
  condition_part : {i j k : ExprId} → ReachesPart x R (nodes.Conditional i j k) R i
  one_part : {i j k : ExprId} {c : Kind} → HasType R (expression x i) c → ReachesPart x R (nodes.Conditional i j k) R j
  other_part : {i j k : ExprId} {c t : Kind} → HasType R (expression x i) c → HasType R (expression x j) t → ReachesPart x R (nodes.Conditional i j k) R k
  mapped_part : {n : Mapped} → ReachesPart x R (nodes.Mapped n) R n.part
  mapped_body : {n : Mapped} {t a : Kind} {S : Names}
      → HasType R (expression x n.part) t → mapped_argument n.mapping t ≡ Some a → Fits a → Binds (pattern_of (stored_pattern x n.pattern)) a R S → ReachesPart x R (nodes.Mapped n) S n.body
  folded_first : {n : Folded} → ReachesPart x R (nodes.Folded n) R n.first
  folded_second : {n : Folded} {t : Kind} → HasType R (expression x n.first) t → ReachesPart x R (nodes.Folded n) R n.second
  folded_body : {n : Folded} {t u a : Kind} {S : Names}
      → HasType R (expression x n.first) t → HasType R (expression x n.second) u → folded_argument n.folding t u ≡ Some a → Fits a → Binds (pattern_of (stored_pattern x n.pattern)) a R S → ReachesPart x R (nodes.Folded n) S n.body
  called_part : {g : NameId} {n : Spot} {i : ExprId} → ReachesPart x R (nodes.Called g n i) R i

-- In the expression at an id the first rule that is broken is that types fit, and these differ: in the form at the id itself,
-- or within the part that is typed next.
pub data ExpressionDiffers (x : Exprs) : Names → ExprId → Difference → Type 0 where
  differs_itself : {R : Names} {i : ExprId} {d : Difference} → NodeDiffers x R (spot_at x i) (node_at x i) d → ExpressionDiffers x R i d
  differs_within : {R S : Names} {i j : ExprId} {d : Difference} → ReachesPart x R (node_at x i) S j → ExpressionDiffers x S j d → ExpressionDiffers x R i d

-- Behind a pattern for a type, the pattern differs, or the expression does.
pub data BoundDiffers (x : Exprs) (R : Names) (p : PlacedPattern) (i : ExprId) (a : Kind) (s : Spot) : Difference → Type 0 where
  bound_pattern : {d : Difference} → PatternDiffers p a s d → BoundDiffers x R p i a s d
  bound_body : {S : Names} {d : Difference} → Binds (pattern_of p) a R S → ExpressionDiffers x S i d → BoundDiffers x R p i a s d

-- the same of a function of values of a type
abbrev pub FunctionDiffers : Exprs → Names → FunctionId → Kind → Spot → Difference → Type 0
FunctionDiffers x R f a s d = BoundDiffers x R (argument_pattern x f) (body_id x f) a s d
