use Rattle.std.proofs.Common.{string_bytes, sym, subst, arith, ◌∙◌}
use Rattle.sf_lex.specs.Words.{IsName}
use Rattle.sf_grammar.specs.Reading.{parse_used}
use Rattle.sf_text.specs.declared.parts.stop.Stop.{Stop}
use Rattle.sf_text.specs.Parsing.Answers.{StopsReading, ahead}
use Rattle.sf_text.proofs.Parsing.Found.{refused_for_memory}
use Rattle.sf_text.proofs.Found.{collection_shared, used_found}
use Rattle.sf_text.proofs.Placed.{shared_placed, used_read}
use Rattle.sf_text.proofs.term.used.Goals as goal

pub returns-in-Ok-clause-reads : goal.returns-in-Ok-clause-reads
returns-in-Ok-clause-reads c = collection_shared c.shared.result c.shared.ensures.ok c.shared.ensures.err
    (used_found (ahead c.args.reader.now.cursor) c.in_ok-label.ensures.reads (c.in_ok-known.ensures.ok ∙ c.as_str.ensures.text) c.in-Ok.ensures.ok)

pub returns-in-Ok-clause-placed : goal.returns-in-Ok-clause-placed
returns-in-Ok-clause-placed c = λ version. shared_placed c.shared.result c.shared.ensures.ok (used_read c.in-Ok.ensures.ok c.in_ok-label.ensures.placed)

pub returns-in-Err-clause-reads : goal.returns-in-Err-clause-reads
returns-in-Err-clause-reads c =
    let named : IsName (string_bytes c.in_ok-known.known) = subst IsName (sym c.in_ok-known.ensures.ok) c.as_str.ensures.named in
    subst (λ (s : Stop). StopsReading s (parse_used (ahead c.args.reader.now.cursor))) (sym c.refused.ensures)
    (refused_for_memory 1 (parse_used (ahead c.args.reader.now.cursor)) c.in-Err.refusal c.args.start.ahead c.in-Err.ensures.refused.due (omega arith) named)
