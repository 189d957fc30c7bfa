use Rattle.std.proofs.Common.{ap, ◌∙◌}
use Rattle.std.proofs.lemmas.Result.{on_ok_weaker}
use Rattle.sf_lex.specs.Tokens
use Rattle.sf_print.specs.declared.draft.Last.TheVariants as lasts
use Rattle.sf_print.specs.Drafts.{Front, is_apart}
use Rattle.sf_print.proofs.Putting.{put_plain, name_plain, name_last}
use Rattle.sf_print.proofs.draft.Draft.name.Goals as goal

pub returns : goal.returns
returns c =
    on_ok_weaker c.append.result (λ e. put_plain c.args.self.now _ (Tokens.name c.args.name.now) c.is_apart-spaced.result c.as_bytes.result.now lasts.Head (name_plain c.args.name.now)
    (c.is_apart-spaced.ensures ∙ ap (λ (d : Front). is_apart d.last) c.self.view_is) c.as_bytes.ensures.value (name_last c.args.name.now) e) c.append.ensures
