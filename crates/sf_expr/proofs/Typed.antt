-- The expressions of an arena that nodes stand for.
use Rattle.std.proofs.Common.{◌≡◌, refl}
use Rattle.sf_expr.specs.declared.exprs.ExprId.{ExprId}
use Rattle.sf_expr.specs.declared.exprs.NameId.{NameId}
use Rattle.sf_expr.specs.declared.exprs.ConstantId.{ConstantId}
use Rattle.sf_expr.specs.declared.exprs.Mapped.{Mapped}
use Rattle.sf_expr.specs.declared.exprs.Folded.{Folded}
use Rattle.sf_expr.specs.declared.exprs.ExprNode.TheVariants as nodes
use Rattle.sf_expr.specs.declared.exprs.Exprs.{Exprs}
use Rattle.sf_refusal.specs.declared.spot.Spot.{Spot}
use Rattle.sf_operator.specs.declared.operator.Operator.{Operator}
use Rattle.sf_operator.specs.declared.operator.Unary.{Unary}
use Rattle.sf_expr.specs.Expressions.{Expression, variable, literal, unit_literal, truth_literal, int_literal, paired, applied, operation, conditional, mapped, folded, called}
use Rattle.sf_expr.specs.Arena.{expression, name_at, literal_at, stored_pattern, Builds, builds_unit, builds_truth, builds_constant, builds_int, builds_name, builds_pair, builds_applied, builds_operation, builds_conditional, builds_mapped, builds_folded, builds_called}
use Rattle.sf_expr.specs.Patterns.{pattern_of}

pub is_int : {x : Exprs} {z : _} {e : Expression} → Builds x (nodes.Int z) e → e ≡ literal (int_literal z)
is_int builds_int = refl

pub is_unit : {x : Exprs} {e : Expression} → Builds x nodes.Unit e → e ≡ literal unit_literal
is_unit builds_unit = refl

pub is_truth : {x : Exprs} {t : _} {e : Expression} → Builds x (nodes.Truth t) e → e ≡ literal (truth_literal t)
is_truth builds_truth = refl

pub is_constant : {x : Exprs} {n : ConstantId} {e : Expression} → Builds x (nodes.Constant n) e → e ≡ literal (literal_at x n)
is_constant builds_constant = refl

pub is_name : {x : Exprs} {n : NameId} {e : Expression} → Builds x (nodes.Name n) e → e ≡ variable (name_at x n)
is_name builds_name = refl

pub is_pair : {x : Exprs} {a b : ExprId} {e : Expression} → Builds x (nodes.Pair a b) e → e ≡ paired (expression x a) (expression x b)
is_pair builds_pair = refl

pub is_applied : {x : Exprs} {o : Unary} {a : ExprId} {e : Expression} → Builds x (nodes.Applied o a) e → e ≡ applied o (expression x a)
is_applied builds_applied = refl

pub is_operation : {x : Exprs} {op : Operator} {a b : ExprId} {e : Expression} → Builds x (nodes.Operation a op b) e → e ≡ operation (expression x a) op (expression x b)
is_operation builds_operation = refl

pub is_conditional : {x : Exprs} {a b c : ExprId} {e : Expression} → Builds x (nodes.Conditional a b c) e → e ≡ conditional (expression x a) (expression x b) (expression x c)
is_conditional builds_conditional = refl

pub is_mapped : {x : Exprs} {n : Mapped} {e : Expression} → Builds x (nodes.Mapped n) e → e ≡ mapped (expression x n.part) n.mapping (pattern_of (stored_pattern x n.pattern)) (expression x n.body)
is_mapped builds_mapped = refl

pub is_folded : {x : Exprs} {n : Folded} {e : Expression} → Builds x (nodes.Folded n) e → e ≡ folded (expression x n.first) n.folding (expression x n.second) (pattern_of (stored_pattern x n.pattern)) (expression x n.body)
is_folded builds_folded = refl

pub is_called : {x : Exprs} {g : NameId} {s : Spot} {a : ExprId} {e : Expression} → Builds x (nodes.Called g s a) e → e ≡ called (name_at x g) (expression x a)
is_called builds_called = refl
