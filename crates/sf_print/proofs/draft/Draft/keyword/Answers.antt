use Rattle.std.proofs.Common.{ap, ◌∙◌}
use Rattle.std.proofs.lemmas.Result.{on_ok_weaker}
use Rattle.sf_lex.specs.Tokens
use Rattle.sf_print.specs.Drafts.{Front, is_apart}
use Rattle.sf_print.proofs.Putting.{put_plain, keyword_plain}
use Rattle.sf_print.proofs.draft.Draft.keyword.Goals as goal

pub returns : goal.returns
returns c =
    on_ok_weaker c.append.result (λ e. put_plain c.args.self.now _ (Tokens.keyword c.args.word) c.is_apart-spaced.result c.as_bytes.result.now c.last_of_keyword.result (keyword_plain c.args.word)
    (c.is_apart-spaced.ensures ∙ ap (λ (d : Front). is_apart d.last) c.self.view_is) (c.as_bytes.ensures.value ∙ c.word.ensures) c.last_of_keyword.ensures e) c.append.ensures
