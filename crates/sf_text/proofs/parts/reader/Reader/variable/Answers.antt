use Rattle.std.proofs.Common.{◌∙◌, sym, subst, refl}
use Rattle.sf_lex.specs.Words.{IsName}
use Rattle.sf_text.specs.Parsing.Answers.{ahead}
use Rattle.sf_text.specs.Parsing.Consuming.{spots_ahead}
use Rattle.sf_text.proofs.Parsing.Found.{keeps_self, expression_built, if_built, variable_ready}
use Rattle.sf_text.proofs.Parsing.Placed.{variable_read}
use Rattle.sf_text.proofs.parts.reader.Reader.variable.Goals as goal

pub returns-clause-reads : goal.returns-clause-reads
returns-clause-reads c = λ whole counted.
    expression_built _ _ _ c.args.start.ahead c.name.result c.built.result (variable_ready whole (ahead c.args.self.now.cursor) (c.in_ok-name.ensures.ok ∙ c.as_str.ensures.text)) (keeps_self c.args.self.now.program) refl counted c.built.ensures c.name.ensures (subst IsName (sym c.in_ok-name.ensures.ok) c.as_str.ensures.named)

pub returns-clause-placed : goal.returns-clause-placed
returns-clause-placed c = λ version. if_built _ _ c.args.start.ahead c.name.result c.built.result c.built.ensures c.name.ensures.ok (λ id added. variable_read (spots_ahead c.args.self.now.cursor) added)
