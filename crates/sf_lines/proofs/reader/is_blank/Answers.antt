use Rattle.std.proofs.Common.{refl}
use Rattle.std.proofs.lemmas.Bool.{eq-eqb, eqb-true}
use Rattle.sf_lines.proofs.Parsed.{first_is, blank_empty, blank_comment}
use Rattle.sf_lines.proofs.reader.is_blank.Goals as goal

pub returns-in-empty : goal.returns-in-empty
returns-in-empty c = (λ _. blank_empty c.args.bytes.now c.in-empty.len_below, λ _. refl)

pub returns-in-len1-up : goal.returns-in-len1-up
returns-in-len1-up c =
    let h = blank_comment c.args.bytes.now _ _ (first_is c.args.bytes.now _ c.in-len1-up.len_at_least refl) in
    (λ e. h.0 (eqb-true _ _ e), λ b. eq-eqb _ _ (h.1 b))
