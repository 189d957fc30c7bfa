use Rattle.std.proofs.Common.{ap, ◌∙◌}
use Rattle.sf_grammar.specs.Spelling.{spell_type}
use Rattle.sf_print.specs.Drafts.{Front}
use Rattle.sf_print.proofs.Written.{put_text}
use Rattle.sf_print.proofs.types.type_text.Goals as goal

pub returns : goal.returns
returns c =
    c.into_bytes.ensures ∙ ap (λ (d : Front). d.bytes) c.in_ok-write_type.ensures
    ∙ put_text c.new-draft.result (spell_type c.args.version c.args.ty.now) c.new-draft.ensures
