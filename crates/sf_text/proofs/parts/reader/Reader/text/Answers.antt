use Rattle.std.proofs.Common.{refl, ap, ◌∙◌}
use Rattle.sf_expr.specs.Expressions.{text_literal}
use Rattle.sf_text.specs.Parsing.Answers.{ahead}
use Rattle.sf_text.specs.Parsing.Consuming.{spots_ahead}
use Rattle.sf_text.proofs.Parsing.Found.{keeps_self, expression_built, if_built, literal_ready_as}
use Rattle.sf_text.proofs.Parsing.Placed.{text_read}
use Rattle.sf_text.proofs.parts.reader.Reader.text.Goals as goal

pub returns-clause-reads : goal.returns-clause-reads
returns-clause-reads c = λ whole counted.
    expression_built _ _ _ c.args.start.ahead c.constant.result c.built.result (literal_ready_as whole (ahead c.args.self.now.cursor) (c.in_ok-constant.ensures ∙ ap text_literal (c.in_ok-text.ensures.ok ∙ c.as_str.ensures.value))) (keeps_self c.args.self.now.program) refl counted c.built.ensures c.constant.ensures tt

pub returns-clause-placed : goal.returns-clause-placed
returns-clause-placed c = λ version. if_built _ _ c.args.start.ahead c.constant.result c.built.result c.built.ensures c.constant.ensures.ok (λ id added. text_read (spots_ahead c.args.self.now.cursor) c.in_ok-constant.ensures added)
