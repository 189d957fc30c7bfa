use Rattle.std.proofs.Common.{rules, OnOk, ◌≡◌, ◌++◌, [], sym, ap, ◌∙◌}
use Rattle.std.proofs.lemmas.Result.{on_ok_weaker}
use Rattle.sf_expr.specs.Constants.{text_bytes}
use Rattle.sf_spelling.specs.Spelling.{spelling, quoted}
use Rattle.sf_lex.specs.Tokens
use Rattle.sf_print.specs.declared.draft.Last.TheVariants as lasts
use Rattle.sf_print.specs.Drafts.{Front, is_apart}
use Rattle.sf_print.proofs.Putting.{put_behind, text_plain, text_last, text_spelled, no_text}
use Rattle.sf_print.proofs.draft.Draft.text.Goals as goal

pub returns-then-is_text : goal.returns-then-is_text
returns-then-is_text c =
    let s = text_bytes c.args.value.now in
    on_ok_weaker c.write_value.result (λ e. put_behind c.args.self.now c.append.new.self _ (Tokens.text s) c.is_apart-spaced.result (spelling c.args.value.now) lasts.Other (text_plain s)
    (c.is_apart-spaced.ensures ∙ ap (λ (d : Front). is_apart d.last) c.self.view_is) (text_spelled c.args.value.now (sym c.is_text.ensures ∙ c.if-is_text.true)) (text_last s) c.in_ok-append.ensures
    (ap (λ bs. record { bytes = bs; last = c.self-2.inside.last }) e ∙ ap (λ (d : Front). record { bytes = d.bytes ++ spelling c.args.value.now; last = d.last }) c.self-2.view_is)) c.write_value.ensures.ok

pub returns-else-is_text : goal.returns-else-is_text
returns-else-is_text c =
    let is : OnOk c.extend_from_slice.result (c.extend_from_slice.new.self.items ≡ c.self-2.inside.bytes.items ++ quoted []) = search rules in
    let s = text_bytes c.args.value.now in
    on_ok_weaker c.extend_from_slice.result (λ e. put_behind c.args.self.now c.append.new.self _ (Tokens.text s) c.is_apart-spaced.result (quoted []) lasts.Other (text_plain s)
    (c.is_apart-spaced.ensures ∙ ap (λ (d : Front). is_apart d.last) c.self.view_is) (no_text c.args.value.now (sym c.is_text.ensures ∙ c.if-is_text.false)) (text_last s) c.in_ok-append.ensures
    (ap (λ bs. record { bytes = bs; last = c.self-2.inside.last }) e ∙ ap (λ (d : Front). record { bytes = d.bytes ++ quoted []; last = d.last }) c.self-2.view_is)) is
