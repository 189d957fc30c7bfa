use Rattle.std.proofs.Common.{◌++◌, [], ◌∷◌, true, false, sym, ap, ◌∙◌}
use Rattle.std.proofs.lemmas.List.{append-nil}
use Rattle.sf_lex.specs.Tokens
use Rattle.sf_print.specs.Drafts.{Front, is_spaced, space}
use Rattle.sf_print.proofs.Putting.{put_symbol}
use Rattle.sf_print.proofs.draft.Draft.symbol.Goals as goal

pub returns-in_ok-push : goal.returns-in_ok-push
returns-in_ok-push c =
    let t = Tokens.symbol c.args.symbol in
    put_symbol c.args.self.now _ t c.is_spaced-spaced.result true c.as_bytes.result.now c.last_of_symbol.result
    (c.is_spaced-spaced.ensures ∙ ap (λ (d : Front). is_spaced d.last t) c.self.view_is)
    (sym c.if-ends_line.true ∙ c.ends_line.ensures) (c.as_bytes.ensures.value ∙ c.text.ensures) c.last_of_symbol.ensures
    (ap (λ bs. record { bytes = bs; last = c.self-2.inside.last }) c.in_ok-push.ensures.items
    ∙ ap (λ (d : Front). record { bytes = d.bytes ++ 10 ∷ []; last = d.last }) (c.self-2.view_is ∙ c.in_ok-append.ensures))

pub returns-else-ends_line : goal.returns-else-ends_line
returns-else-ends_line c =
    let t = Tokens.symbol c.args.symbol in
    put_symbol c.args.self.now _ t c.is_spaced-spaced.result false c.as_bytes.result.now c.last_of_symbol.result
    (c.is_spaced-spaced.ensures ∙ ap (λ (d : Front). is_spaced d.last t) c.self.view_is)
    (sym c.if-ends_line.false ∙ c.ends_line.ensures) (c.as_bytes.ensures.value ∙ c.text.ensures) c.last_of_symbol.ensures
    (c.in_ok-append.ensures ∙ ap (λ bs. record { bytes = bs; last = c.last_of_symbol.result }) (sym (append-nil (c.args.self.now.bytes ++ (space c.is_spaced-spaced.result ++ c.as_bytes.result.now)))))
