use Rattle.std.proofs.Common.{ap, sym, subst, ◌∙◌}
use Rattle.sf_expr.specs.declared.exprs.numbers.NumberedPattern.{NumberedPattern}
use Rattle.sf_expr.specs.Patterns.{PlacedPattern, pattern_of}
use Rattle.sf_expr.specs.PatternView.{pattern_placed}
use Rattle.sf_expr.specs.Numbered.{IsNumbered}
use Rattle.sf_expr.proofs.Numbered.{spelled_still}
use Rattle.sf_expr.proofs.exprs.numbers.+numbered.Goals as goal

pub returns-in_ok-right-in-Both-2-clause-kept : goal.returns-in_ok-right-in-Both-2-clause-kept
returns-in_ok-right-in-Both-2-clause-kept t c = λ x i h. c.in_ok-right-in-Both.ensures.kept x i (c.in_ok-left-in-Both.ensures.kept x i h)

pub returns-in_ok-right-in-Both-2-clause-given : goal.returns-in_ok-right-in-Both-2-clause-given
returns-in_ok-right-in-Both-2-clause-given t c =
    let js = c.numbered.new.texts.keys in
    let ks = c.numbered-in-Both.new.texts.keys in
    let p = pattern_of c.in-Both.first.value in
    let q = pattern_of c.in-Both.second.value in
    let is = ap pattern_of (sym c.form.ensures ∙ ap pattern_placed c.in-Both.is) in
    let left = spelled_still js ks c.in_ok-right-in-Both.ensures.kept p c.in_ok-left-in-Both.left (subst (λ (r : PlacedPattern). IsNumbered js (pattern_of r) c.in_ok-left-in-Both.left) c.deref.ensures c.in_ok-left-in-Both.ensures.given) in
    let right = subst (λ (r : PlacedPattern). IsNumbered ks (pattern_of r) c.in_ok-right-in-Both.right) c.deref-in-Both.ensures c.in_ok-right-in-Both.ensures.given in
    let both : IsNumbered ks p c.in_ok-left-in-Both-2.left.value × IsNumbered ks q c.in_ok-right-in-Both-2.right.value =
    (subst (λ (s : NumberedPattern). IsNumbered ks p s) (sym c.in_ok-left-in-Both-2.ensures.ok) left, subst (λ (s : NumberedPattern). IsNumbered ks q s) (sym c.in_ok-right-in-Both-2.ensures.ok) right) in
    rw is both
