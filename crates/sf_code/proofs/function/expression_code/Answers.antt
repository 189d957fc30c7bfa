use Rattle.std.proofs.Common.{refl}
use Rattle.sf_expr.specs.Arena.{expression}
use Rattle.sf_code.specs.Around.{patterns_around}
use Rattle.sf_code.proofs.Worth.{is_code_of}
use Rattle.sf_code.proofs.function.expression_code.Goals as goal

pub returns-clause-code : goal.returns-clause-code
returns-clause-code c = is_code_of c.args.exprs.now (expression c.args.exprs.now c.args.id) _ (patterns_around c.args.exprs.now c.in_ok-around.around) refl c.in_ok-around.ensures.closed c.in_ok-code.ensures
