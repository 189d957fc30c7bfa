use Rattle.std.proofs.Common.{refl, ap, w64}
use Rattle.std.proofs.lemmas.Int.{to_z-of_z}
use Rattle.sf_expr.specs.Expressions.{int_literal}
use Rattle.sf_text.specs.Parsing.Answers.{ahead}
use Rattle.sf_text.specs.Parsing.Consuming.{spots_ahead}
use Rattle.sf_text.proofs.Parsing.Found.{keeps_self, expression_built, if_built, literal_ready_as}
use Rattle.sf_text.proofs.Parsing.Placed.{number_read}
use Rattle.sf_text.proofs.parts.reader.Reader.number.Goals as goal

pub returns-clause-reads : goal.returns-clause-reads
returns-clause-reads c = λ whole counted.
    expression_built _ _ _ c.args.start.ahead c.int.result c.built.result (literal_ready_as whole (ahead c.args.self.now.cursor) (ap int_literal (to_z-of_z w64 c.args.number c.ranges.number))) (keeps_self c.args.self.now.program) refl counted c.built.ensures c.int.ensures tt

pub returns-clause-placed : goal.returns-clause-placed
returns-clause-placed c = λ version. if_built _ _ c.args.start.ahead c.int.result c.built.result c.built.ensures c.int.ensures.ok (λ id added. number_read (spots_ahead c.args.self.now.cursor) added)
