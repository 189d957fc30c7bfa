use Rattle.std.proofs.Common.{◌≡◌, ◌∙◌, ap, refl, sym, subst, string_bytes}
use Rattle.sf_value.specs.Values.{Name}
use Rattle.sf_expr.specs.Expressions.{named}
use Rattle.sf_expr.specs.Patterns.{PlacedPattern, placed_unnamed, placed_name, pattern_of}
use Rattle.sf_expr.specs.PatternView.{pattern_placed}
use Rattle.sf_expr.specs.Typing.{Names, typed_name, AddsNames, adds_nothing, adds_name}
use Rattle.sf_expr.specs.Meanings.{value_names}
use Rattle.sf_expr.specs.Scopes.{frame_entries}
use Rattle.sf_refusal.specs.declared.rule.Rule.TheVariants.{Mismatch}
use Rattle.sf_refusal.proofs.Explained.{breaks_at, refused_on, memory_on}
use Rattle.sf_expr.proofs.Bound.{both_adds, on_ok, on_err, first_unbound, second_unbound, other_unbound}
use Rattle.sf_expr.proofs.frame.Frame.+bind.Goals as goal

pub returns-in-Unnamed-default-clause-ok : goal.returns-in-Unnamed-default-clause-ok
returns-in-Unnamed-default-clause-ok t c =
    let R = value_names (frame_entries c.args.self.now) in
    let whole : c.args.pattern.now ≡ placed_unnamed = sym c.form.ensures ∙ ap pattern_placed c.in-Unnamed-default.is-0 in
    subst (λ (p : PlacedPattern). AddsNames (pattern_of p) c.args.ty.now R R) (sym whole) adds_nothing

pub returns-in_ok-add_value-in-Name-default-clause-ok : goal.returns-in_ok-add_value-in-Name-default-clause-ok
returns-in_ok-add_value-in-Name-default-clause-ok t c =
    let R = value_names (frame_entries c.args.self.now) in
    let x = string_bytes c.in-Name-default.name in
    let whole : c.args.pattern.now ≡ placed_name x c.in-Name-default.field-1-0 = sym c.form.ensures ∙ ap pattern_placed c.in-Name-default.is-0 in
    let more : value_names (frame_entries c.add_value.new.self) ≡ typed_name x c.args.ty.now R = ap value_names c.in_ok-add_value-in-Name-default.ensures ∙ ap (λ (y : Name). typed_name y c.args.ty.now R) c.as_str.ensures.value in
    subst (λ (p : PlacedPattern). AddsNames (pattern_of p) c.args.ty.now R (value_names (frame_entries c.add_value.new.self))) (sym whole) (subst (λ (S : Names). AddsNames (named x) c.args.ty.now R S) (sym more) adds_name)

pub returns-in_ok-bind-in-Both-Some-clause-ok : goal.returns-in_ok-bind-in-Both-Some-clause-ok
returns-in_ok-bind-in-Both-Some-clause-ok t c =
    on_ok c.bind-in-Both-Some.result
    (λ h. both_adds c.args.pattern.now c.in-Both-Some.first.value c.in-Both-Some.second.value c.deref.result.now c.deref-in-Both-Some.result.now
    c.args.ty.now c.in-Both-Some.left.now c.in-Both-Some.right.now c.in-Both-Some.left.now c.in-Both-Some.right.now
    (sym c.form.ensures ∙ ap pattern_placed c.in-Both-Some.is-0) c.deref.ensures c.deref-in-Both-Some.ensures
    c.in-Both-Some.ensures.pair refl refl
    c.in_ok-bind-in-Both-Some.ensures.ok h)
    c.bind-in-Both-Some.ensures.ok

pub returns-in_err-add_value-in-Name-default-clause-err : goal.returns-in_err-add_value-in-Name-default-clause-err
returns-in_err-add_value-in-Name-default-clause-err t c = memory_on _ _ c.from_residual.ensures.1

pub returns-in_err-bind-in-Both-Some-clause-err : goal.returns-in_err-bind-in-Both-Some-clause-err
returns-in_err-bind-in-Both-Some-clause-err t c =
    refused_on _ _ c.from_residual-in_err-bind-in-Both-Some.ensures.1
    (first_unbound c.args.pattern.now c.in-Both-Some.first.value c.in-Both-Some.second.value c.deref.result.now c.args.ty.now c.in-Both-Some.left.now c.in-Both-Some.right.now c.in-Both-Some.left.now c.args.at _
    (sym c.form.ensures ∙ ap pattern_placed c.in-Both-Some.is-0) c.in-Both-Some.ensures.pair
    c.deref.ensures refl c.in_err-bind-in-Both-Some.ensures.err)

pub returns-in_ok-bind-in-Both-Some-clause-err : goal.returns-in_ok-bind-in-Both-Some-clause-err
returns-in_ok-bind-in-Both-Some-clause-err t c =
    on_err c.bind-in-Both-Some.result
    (λ r h. second_unbound c.args.pattern.now c.in-Both-Some.first.value c.in-Both-Some.second.value c.deref-in-Both-Some.result.now c.args.ty.now c.in-Both-Some.left.now c.in-Both-Some.right.now c.in-Both-Some.right.now c.args.at r
    (sym c.form.ensures ∙ ap pattern_placed c.in-Both-Some.is-0) c.in-Both-Some.ensures.pair
    c.deref-in-Both-Some.ensures refl h)
    c.bind-in-Both-Some.ensures.err

pub returns-in-Both-None-clause-err : goal.returns-in-Both-None-clause-err
returns-in-Both-None-clause-err t c =
    breaks_at Mismatch c.broken.ensures refl
    (refl, other_unbound c.args.pattern.now _ _ c.args.ty.now (sym c.form.ensures ∙ ap pattern_placed c.in-Both-None.is-0) c.in-Both-None.ensures.other)
