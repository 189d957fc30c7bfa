use Rattle.std.proofs.Common.{refl, ap}
use Rattle.sf_expr.specs.declared.exprs.ConstantId.{ConstantId}
use Rattle.sf_expr.specs.declared.exprs.ExprNode.TheVariants as expressions
use Rattle.sf_expr.specs.Expressions.{literal}
use Rattle.sf_term.specs.Arena.{program_expressions, expression_count}
use Rattle.sf_term.proofs.Extended.{expression_follows}
use Rattle.sf_term.proofs.Refused.{builds_none, itself}
use Rattle.sf_term.proofs.program.Program.constant.Goals as goal

pub add_expression-requires : goal.add_expression-requires
unfolding program_expressions
add_expression-requires c = c.in_ok-constant.ensures.ok.within

pub returns-in_err-constant : goal.returns-in_err-constant
unfolding expression_count
returns-in_err-constant c = builds_none _ _ _ _ _ _ c.from_residual.result _ c.from_residual.ensures.1 c.in_err-constant.ensures.refused c.len-count.ensures refl itself c.in_err-constant.ensures.same

pub returns : goal.returns
unfolding program_expressions
returns c =
    let put = c.in_ok-constant.ensures in
    expression_follows c.args.self.now _ _ c.add_expression.result _ _ (λ (n : ConstantId). expressions.Constant n) _ c.args.spot put.refused.room.2 put.ok.next put.same (ap literal put.ok.is) c.add_expression.ensures
