use Rattle.std.proofs.Common.{refl}
use Rattle.sf_expr.specs.Expressions.{unit_literal}
use Rattle.sf_text.specs.Parsing.Answers.{ahead}
use Rattle.sf_text.specs.Parsing.Consuming.{spots_ahead}
use Rattle.sf_text.proofs.Parsing.Found.{keeps_self, expression_built, if_built, literal_ready}
use Rattle.sf_text.proofs.Parsing.Placed.{unit_read}
use Rattle.sf_text.proofs.parts.reader.Reader.unit.Goals as goal

pub returns-clause-reads : goal.returns-clause-reads
returns-clause-reads c = λ whole counted.
    expression_built _ _ _ c.args.start.ahead c.add_expression.result c.built.result (literal_ready unit_literal whole (ahead c.args.self.now.cursor)) (keeps_self c.args.self.now.program) refl counted c.built.ensures c.add_expression.ensures tt

pub returns-clause-placed : goal.returns-clause-placed
returns-clause-placed c = λ version closing. if_built _ _ c.args.start.ahead c.add_expression.result c.built.result c.built.ensures c.add_expression.ensures.ok (λ id added. unit_read closing (spots_ahead c.args.self.now.cursor) added)
