use Rattle.std.proofs.Common.{refl, arith}
use Rattle.sf_expr.specs.declared.exprs.NameId.{NameId}
use Rattle.sf_expr.specs.declared.exprs.ExprNode.TheVariants as expressions
use Rattle.sf_term.specs.Arena.{program_expressions, expression_count, program_expression}
use Rattle.sf_term.proofs.Extended.{expression_follows}
use Rattle.sf_term.proofs.Refused.{builds_none, itself}
use Rattle.sf_term.proofs.program.Program.called.Goals as goal

pub add_expression-requires : goal.add_expression-requires
unfolding program_expressions
add_expression-requires c = (c.in_ok-name.ensures.ok.within, c.in_ok-name.ensures.ok.kept.holds c.args.part c.requires)

pub returns-in_err-name : goal.returns-in_err-name
unfolding expression_count program_expression
returns-in_err-name c = builds_none _ _ _ _ _ _ c.from_residual.result _ c.from_residual.ensures.1 c.in_err-name.ensures.refused c.len-count.ensures (omega (arith, c.depth-parts.ensures.value)) itself c.in_err-name.ensures.same

pub returns : goal.returns
unfolding program_expressions program_expression
returns c =
    let put = c.in_ok-name.ensures in
    expression_follows c.args.self.now _ _ c.add_expression.result _ _ (λ (n : NameId). expressions.Called n c.args.place c.args.part) _ c.args.spot put.refused.room.2 put.ok.next put.same (rw (put.ok.is, put.ok.trees c.args.part) refl) c.add_expression.ensures
