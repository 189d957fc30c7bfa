use Rattle.std.proofs.Common.{ap, ◌∙◌}
use Rattle.sf_term.specs.Arena.{templates_of}
use Rattle.sf_grammar.specs.Spelling.{spell}
use Rattle.sf_print.specs.Drafts.{Front}
use Rattle.sf_print.proofs.Written.{put_text}
use Rattle.sf_print.proofs.network.print.Goals as goal

pub returns : goal.returns
returns c =
    c.into_bytes.ensures ∙ ap (λ (d : Front). d.bytes) c.in_ok-write_program.ensures
    ∙ put_text c.new-draft.result (spell c.args.version (templates_of c.args.program.now)) c.new-draft.ensures
