use Rattle.std.proofs.Common.{refl, arith}
use Rattle.sf_expr.specs.declared.exprs.PatternId.{PatternId}
use Rattle.sf_expr.specs.declared.exprs.ExprNode.TheVariants as expressions
use Rattle.sf_term.specs.Arena.{program_expressions, expression_count, program_expression}
use Rattle.sf_term.proofs.Extended.{expression_follows, pattern_there, unchanged_keeps}
use Rattle.sf_term.proofs.Refused.{builds_none, itself}
use Rattle.sf_term.proofs.program.Program.folded.Goals as goal

pub add_expression-requires : goal.add_expression-requires
unfolding program_expressions
add_expression-requires c =
    let kept = (unchanged_keeps _ _ c.in_ok-pattern.ensures.same).trees in
    (kept.expressions c.args.first c.requires.first_held, kept.expressions c.args.second c.requires.second_held, c.in_ok-pattern.ensures.ok.within, kept.expressions c.args.body c.requires.body_held)

pub returns-in_err-pattern-clause-builds : goal.returns-in_err-pattern-clause-builds
unfolding expression_count program_expression
returns-in_err-pattern-clause-builds c = builds_none _ _ _ _ _ _ c.from_residual.result _ c.from_residual.ensures.1 c.in_err-pattern.ensures.refused c.len-count.ensures (omega (arith, c.max-parts.ensures, c.max-operands.ensures, c.depth.ensures.value, c.depth-2.ensures.value, c.depth-3.ensures.value)) itself c.in_err-pattern.ensures.same

pub returns-clause-builds : goal.returns-clause-builds
unfolding program_expressions program_expression
returns-clause-builds c =
    let put = c.in_ok-pattern.ensures in
    expression_follows c.args.self.now _ _ c.add_expression.result _ _ (λ (q : PatternId). expressions.Folded (record { first = c.args.first; folding = c.args.folding; second = c.args.second; pattern = q; body = c.args.body })) _ c.args.spot put.refused.room.2 put.ok.next put.same
    (rw (put.same.values c.args.first, put.same.values c.args.second, put.same.values c.args.body, put.ok.is) refl)
    c.add_expression.ensures

pub returns-clause-placed : goal.returns-clause-placed
unfolding program_expressions
returns-clause-placed c = pattern_there c.args.self.now c.put_pattern.new.self _ c.add_expression.result _ _ _ _ _ c.in_ok-pattern.ensures.ok c.add_expression.ensures.ok
