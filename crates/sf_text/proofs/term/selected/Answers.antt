use Rattle.std.proofs.Common.{rules, w64}
use Rattle.std.proofs.lemmas.Int.{to_z-of_z}
use Rattle.sf_text.specs.Parsing.Answers.{ahead}
use Rattle.sf_text.proofs.Found.{term_built, selected_ready}
use Rattle.sf_text.proofs.Placed.{selected_read}
use Rattle.sf_text.proofs.Parsing.Found.{if_built, keeps_self}
use Rattle.sf_text.proofs.term.selected.Goals as goal

pub returns-clause-reads : goal.returns-clause-reads
returns-clause-reads c = λ whole counted.
    term_built _ _ _ c.args.start.ahead c.add.result c.built.result
    (selected_ready (ahead c.args.reader.now.cursor) c.in_ok-count.ensures.reads (to_z-of_z w64 c.in_ok-count.count (search rules)))
    (keeps_self c.args.reader.now.program) counted c.built.ensures c.add.ensures tt

pub returns-clause-placed : goal.returns-clause-placed
returns-clause-placed c = λ version. if_built _ _ c.args.start.ahead c.add.result c.built.result c.built.ensures c.add.ensures.ok (λ id added.
    selected_read added c.in_ok-count.ensures.behind)
