use Rattle.std.proofs.Common.{sym, ap, ◌∙◌, arith, ◌++◌, ◌∷◌}
use Rattle.std.proofs.lemmas.Bool.{false≢true}
use Rattle.sf_lines.specs.Asking.{with_value, unchanged, with_save, with_back}
use Rattle.sf_decimal.specs.Decimals.{natural}
use Rattle.sf_lines.proofs.Parsed.{not_blank, formless_zero, step_positive}
use Rattle.sf_lines.proofs.reader.parts_of.Goals as goal

pub returns-then-not-is_unchanged : goal.returns-then-not-is_unchanged
returns-then-not-is_unchanged c =
    let s = c.in-Some.ensures in
    (s.step, s.capped, with_value s.cut (λ same. absurd (false≢true (sym c.if-not-is_unchanged.true ∙ c.is_unchanged.ensures.1 same))))

pub returns-then-step-gt0 : goal.returns-then-step-gt0
returns-then-step-gt0 c =
    let s = c.in-Some.ensures in
    let value = c.is_unchanged.ensures.0 c.if-not-is_unchanged.false in
    (s.step, s.capped, unchanged (s.cut ∙ ap (λ x. natural s.step ++ 32 ∷ x) value) (step_positive c.in-Some.step s.step s.capped c.if-step-gt0.true))

pub returns-else-step-gt0 : goal.returns-else-step-gt0
returns-else-step-gt0 c =
    let value = c.is_unchanged.ensures.0 c.if-not-is_unchanged.false in
    formless_zero c.args.bytes.now c.in-Some.step c.in-Some.value.now (not_blank _ _ c.if-is_blank.false c.is_blank.ensures) c.in-Some.ensures value (omega arith)

pub returns-in-Some-name_behind : goal.returns-in-Some-name_behind
returns-in-Some-name_behind c = let n = c.in-Some-name_behind.ensures in with_save n.cut n.named

pub returns-in-Some-name_behind-2 : goal.returns-in-Some-name_behind-2
returns-in-Some-name_behind-2 c = let n = c.in-Some-name_behind-2.ensures in with_back n.cut n.named
