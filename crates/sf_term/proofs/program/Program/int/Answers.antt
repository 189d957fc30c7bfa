use Rattle.std.proofs.Common.{ℤ, subst, w64}
use Rattle.std.proofs.lemmas.Int.{to_z-of_z}
use Rattle.sf_expr.specs.declared.exprs.ExprNode.TheVariants as expressions
use Rattle.sf_expr.specs.Expressions.{literal, int_literal}
use Rattle.sf_term.specs.Arena.{program_expressions}
use Rattle.sf_term.specs.Building.{BuildsExpression, NoNames}
use Rattle.sf_term.proofs.program.Program.int.Goals as goal

pub returns : goal.returns
unfolding program_expressions
returns c = subst (λ (z : ℤ). BuildsExpression c.args.self.now c.add_expression.new.self c.add_expression.result (expressions.Int z) (literal (int_literal z)) c.args.spot NoNames) (to_z-of_z w64 c.args.n c.ranges.n) c.add_expression.ensures
