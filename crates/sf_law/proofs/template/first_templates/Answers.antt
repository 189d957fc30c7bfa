use Rattle.std.proofs.Common.{◌≡◌, ◌+◌, length, slice_index_or, sym, ◌∙◌, ap, subst, arith}
use Rattle.std.specs.HashMap.{get_by_text}
use Rattle.std.proofs.lemmas.List.{get_or_default}
use Rattle.sf_law.specs.Headers.{PlanHeader, no_header}
use Rattle.sf_law.proofs.Numbers.{is_absent, FirstBelow, present_still, absent_added, first_of_all}
use Rattle.sf_law.proofs.template.first_templates.Goals.{then-not-contains_key+in_ok-from_str+in_ok-insert, else-not-contains_key}
use Rattle.sf_law.proofs.template.first_templates.Goals as goal

pub loop-number-preserved : goal.loop-number-preserved
loop-number-preserved c =
    let hs = c.args.templates.now in
    let i = c.loop-number.number in
    let at : slice_index_or hs i no_header ≡ c.index-templates-number.result = get_or_default hs i no_header c.index-templates-number.result c.loop-number-test.true ∙ sym c.index-templates-number.is in
    let here : (slice_index_or hs i no_header).name ≡ c.name-name.result.now = ap (λ (h : PlanHeader). h.name) at ∙ sym c.name-name.ensures in
    elim c.if-not-contains_key.branch [
      | then-not-contains_key+in_ok-from_str+in_ok-insert w ↦
          let none = is_absent _ _ c.contains_key.ensures w.if-not-contains_key.true in
          record {
            first = λ x. subst (λ m. FirstBelow hs x (i + 1) (get_by_text m x)) (sym w.numbers-is) (absent_added hs i c.name-name.result.now here c.loop-number.numbers w.insert.new.self w.in_ok-from_str.field-0 w.in_ok-from_str.ensures.ok none w.in_ok-insert.ensures.entries x (c.loop-number.invariant.first x));
          }
      | else-not-contains_key w ↦
          let there = sym c.contains_key.ensures ∙ w.if-not-contains_key.false in
          record {
            first = λ x. subst (λ m. FirstBelow hs x (i + 1) (get_by_text m x)) (sym w.numbers-is) (present_still hs i c.name-name.result.now here c.loop-number.numbers x there (c.loop-number.invariant.first x));
          }
    ]

pub returns : goal.returns
returns c = λ x.
    let hs = c.args.templates.now in
    let i = c.loop-number.number in
    let all : i ≡ length hs = omega (arith, c.loop-number-test.false, c.loop-number.auto.number-end) in
    first_of_all hs x (get_by_text c.loop-number.numbers x) (subst (λ k. FirstBelow hs x k (get_by_text c.loop-number.numbers x)) all (c.loop-number.invariant.first x))
