use Rattle.std.proofs.Common.{sym, subst, ◌∙◌}
use Rattle.sf_lex.specs.Words.{IsName}
use Rattle.sf_text.specs.Parsing.Answers.{ahead}
use Rattle.sf_text.proofs.Found.{term_built, named_ready}
use Rattle.sf_text.proofs.Placed.{named_read}
use Rattle.sf_text.proofs.Parsing.Found.{if_built, keeps_self}
use Rattle.sf_text.proofs.term.named.Goals as goal

pub returns-clause-reads : goal.returns-clause-reads
returns-clause-reads c = λ whole counted.
    term_built _ _ _ c.args.start.ahead c.named.result c.built.result
    (named_ready c.args.form (ahead c.args.reader.now.cursor) c.in_ok-label.ensures.reads (c.in_ok-known.ensures.ok ∙ c.as_str.ensures.text))
    (keeps_self c.args.reader.now.program) counted c.built.ensures c.named.ensures (subst IsName (sym c.in_ok-known.ensures.ok) c.as_str.ensures.named)

pub returns-clause-placed : goal.returns-clause-placed
returns-clause-placed c = λ version. if_built _ _ c.args.start.ahead c.named.result c.built.result c.built.ensures c.named.ensures.ok (λ id added.
    named_read added c.in_ok-label.ensures.placed)
