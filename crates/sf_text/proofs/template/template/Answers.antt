use Rattle.std.proofs.Common.{◌≡◌, length, string_bytes, sym, subst, arith}
use Rattle.sf_lex.specs.Words.{IsName}
use Rattle.sf_text.specs.declared.parts.stop.Stop.{Stop}
use Rattle.sf_grammar.specs.Reading.{parse_template}
use Rattle.sf_text.specs.Parsing.Answers.{StopsReading, counts_of, ahead, stop_for}
use Rattle.sf_text.specs.Answers.{declared_kinds}
use Rattle.sf_text.proofs.Parsing.Found.{refused_for_memory}
use Rattle.sf_text.proofs.Placed.{signature_counted, template_read}
use Rattle.sf_text.proofs.template.template.Goals as goal

pub returns-in-Err-clause-reads : goal.returns-in-Err-clause-reads
returns-in-Err-clause-reads c =
    let is : c.refused.result ≡ stop_for c.in-Err.refusal (length c.args.reader.now.cursor.tokens.now) = c.refused.ensures in
    let named : IsName (string_bytes c.in_ok-name.name) = subst IsName (sym c.in_ok-name.ensures.ok) c.as_str.ensures.named in
    subst (λ (s : Stop). StopsReading s (parse_template c.args.version (counts_of c.args.reader.now.program) (ahead c.args.reader.now.cursor))) (sym is)
    (refused_for_memory 1 (parse_template c.args.version (counts_of c.args.reader.now.program) (ahead c.args.reader.now.cursor)) c.in-Err.refusal (length c.args.reader.now.cursor.tokens.now) c.in-Err.ensures.refused.due (omega arith) (named, c.in_ok-titled.ensures.named))

pub returns-in-Ok-clause-placed : goal.returns-in-Ok-clause-placed
returns-in-Ok-clause-placed c =
    template_read c.in_ok-body.ensures.reads.kept c.in-Ok.ensures.ok c.in_ok-titled.ensures.placed c.in_ok-types.ensures.behind
    (signature_counted c.args.version c.heading.new.cursor.tokens.now c.signature.new.cursor.tokens.now (declared_kinds c.in_ok-types.types) c.in_ok-types.ensures.reads c.in_ok-types.ensures.behind)
    c.in_ok-body.ensures.placed c.in_ok-symbol.ensures.behind
