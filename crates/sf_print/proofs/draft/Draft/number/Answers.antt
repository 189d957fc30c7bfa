use Rattle.std.proofs.Common.{rules, OnOk, ◌≡◌, ◌++◌, refl, ap, ◌∙◌}
use Rattle.std.proofs.lemmas.Result.{on_ok_weaker}
use Rattle.sf_decimal.specs.Decimals.{integer}
use Rattle.sf_lex.specs.Tokens
use Rattle.sf_print.specs.declared.draft.Last.TheVariants as lasts
use Rattle.sf_print.specs.Drafts.{Front, is_apart}
use Rattle.sf_print.proofs.Putting.{put_behind, number_plain, number_last}
use Rattle.sf_print.proofs.draft.Draft.number.Goals as goal

pub returns : goal.returns
returns c =
    let is : OnOk c.write_integer.result (c.write_integer.new.out.items ≡ c.self-2.inside.bytes.items ++ integer c.args.number) = search rules in
    on_ok_weaker c.write_integer.result (λ e. put_behind c.args.self.now c.append.new.self _ (Tokens.number c.args.number) c.is_apart-spaced.result (integer c.args.number) lasts.Other (number_plain c.args.number)
    (c.is_apart-spaced.ensures ∙ ap (λ (d : Front). is_apart d.last) c.self.view_is) refl (number_last c.args.number) c.in_ok-append.ensures
    (ap (λ bs. record { bytes = bs; last = c.self-2.inside.last }) e ∙ ap (λ (d : Front). record { bytes = d.bytes ++ integer c.args.number; last = d.last }) c.self-2.view_is)) is
