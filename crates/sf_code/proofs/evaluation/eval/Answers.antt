use Rattle.std.proofs.Common.{subst}
use Rattle.sf_expr.specs.declared.exprs.Exprs.{Exprs}
use Rattle.sf_expr.specs.Arena.{expression}
use Rattle.sf_expr.specs.Evaluation.{eval}
use Rattle.sf_expr.proofs.Sound.{expression_yields}
use Rattle.sf_code.specs.Names.{scope_with}
use Rattle.sf_code.specs.Worth.{IsCodeOf}
use Rattle.sf_code.proofs.Typed.{answers_kind}
use Rattle.sf_code.proofs.evaluation.eval.Goals as goal

pub returns-clause-typed : goal.returns-clause-typed
returns-clause-typed g c = λ R t typed has.
    let s = scope_with (g.N.Names.values c.args.names.now) (g.F.Holds.answers c.args.functions.now) in
    let x = g.N.Names.expressions c.args.names.now in
    let e = expression x c.args.id in
    let code : IsCodeOf x e c.in_ok-code.code = subst (λ (y : Exprs). IsCodeOf y (expression y c.args.id) c.in_ok-code.code) c.expressions.ensures c.in_ok-code.ensures.code in
    answers_kind t _ (eval e s) (c.evaluate_among.ensures e code) (expression_yields typed has)
