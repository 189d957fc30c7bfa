use Rattle.std.proofs.Common.{◌≡◌, ◌↔◌, ◌∙◌, IsTrue, sym, subst, ap}
use Rattle.sf_expr.specs.Patterns.{PlacedPattern, pattern_of, placed_both}
use Rattle.sf_expr.specs.PatternView.{pattern_placed}
use Rattle.sf_term.specs.Names.{HasNames}
use Rattle.sf_term.proofs.Named.{both_named, first_unnamed}
use Rattle.sf_term.proofs.names.+has_names.Goals as goal

pub returns-then-has_names : goal.returns-then-has_names
returns-then-has_names t c =
    let whole : c.args.pattern.now ≡ placed_both c.in-Both.first.value c.in-Both.second.value = sym c.form.ensures ∙ ap pattern_placed c.in-Both.is in
    let one = subst (λ (p : PlacedPattern). IsTrue c.has_names.result ↔ HasNames (pattern_of p)) c.deref.ensures c.has_names.ensures in
    let two = subst (λ (p : PlacedPattern). IsTrue c.has_names-then-has_names.result ↔ HasNames (pattern_of p)) c.deref-then-has_names.ensures c.has_names-then-has_names.ensures in
    subst (λ (p : PlacedPattern). IsTrue c.has_names-then-has_names.result ↔ HasNames (pattern_of p)) (sym whole)
    (both_named (pattern_of c.in-Both.first.value) (pattern_of c.in-Both.second.value) _ (one.0 c.if-has_names.true) two)

pub returns-else-has_names : goal.returns-else-has_names
returns-else-has_names t c =
    let whole : c.args.pattern.now ≡ placed_both c.in-Both.first.value c.in-Both.second.value = sym c.form.ensures ∙ ap pattern_placed c.in-Both.is in
    let one = subst (λ (p : PlacedPattern). IsTrue c.has_names.result ↔ HasNames (pattern_of p)) c.deref.ensures c.has_names.ensures in
    subst (λ (p : PlacedPattern). IsTrue c.has_names.result ↔ HasNames (pattern_of p)) (sym whole)
    (first_unnamed (pattern_of c.in-Both.first.value) (pattern_of c.in-Both.second.value) _ one c.if-has_names.false)
