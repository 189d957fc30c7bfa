use Rattle.std.proofs.Common.{refl, sym, ◌∙◌}
use Rattle.sf_lines.proofs.Parsed.{first_is, none_empty, none_other, number_zero, number_some}
use Rattle.sf_lines.proofs.reader.number_at.Goals as goal

pub returns-in-empty : goal.returns-in-empty
returns-in-empty c = none_empty c.args.bytes.now c.in-empty.len_below

pub returns-then-c-eq48 : goal.returns-then-c-eq48
returns-then-c-eq48 c = number_zero c.args.bytes.now _ (first_is c.args.bytes.now 48 c.in-len1-up.len_at_least c.if-c-eq48.true)

pub returns-then-is_ascii_digit : goal.returns-then-is_ascii_digit
returns-then-is_ascii_digit c =
    number_some c.args.bytes.now _ _ _ _ (first_is c.args.bytes.now _ c.in-len1-up.len_at_least refl) c.if-c-eq48.false
    (sym c.is_ascii_digit.ensures.value ∙ c.if-is_ascii_digit.true) c.digits_at-run.ensures.number c.digits_at-run.ensures.rest

pub returns-else-is_ascii_digit : goal.returns-else-is_ascii_digit
returns-else-is_ascii_digit c =
    none_other c.args.bytes.now _ _ (first_is c.args.bytes.now _ c.in-len1-up.len_at_least refl)
    (sym c.is_ascii_digit.ensures.value ∙ c.if-is_ascii_digit.false)
