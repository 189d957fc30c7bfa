use Rattle.std.proofs.Common.{◌≡◌, ◌∙◌, sym, ap, subst, Option, Some, None, IfSome}
use mathlib.Core.Path.{subst₂}
use Rattle.std.specs.Borrow.{Bor}
use Rattle.sf_value.specs.Values.{Kind, pair_kind}
use Rattle.sf_expr.specs.Patterns.{PlacedPattern, placed_both, pattern_of}
use Rattle.sf_expr.specs.PatternView.{pattern_placed}
use Rattle.sf_differ.specs.Differing.{Unpaired, unpaired, unpaired_first, unpaired_second}
use Rattle.sf_differ.proofs.pattern.+unpaired.Goals as goal

module _ (p p1 p2 : PlacedPattern) (t t1 t2 a : Kind) (whole : p ≡ placed_both p1 p2) (pair : t ≡ pair_kind t1 t2) where
  in_first : Unpaired (pattern_of p1) t1 a → Unpaired (pattern_of p) t a
  in_first h = subst₂ (λ p t. Unpaired (pattern_of p) t a) (sym whole) (sym pair) (unpaired_first h)

  in_second : Unpaired (pattern_of p2) t2 a → Unpaired (pattern_of p) t a
  in_second h = subst₂ (λ p t. Unpaired (pattern_of p) t a) (sym whole) (sym pair) (unpaired_second h)

pub returns-in-Some : goal.returns-in-Some
returns-in-Some t c =
    let part = subst (λ (p : PlacedPattern). Unpaired (pattern_of p) c.in-Both-Some.left.now c.in-Some.part.now) c.deref.ensures c.in-Some.ensures in
    in_first c.args.pattern.now c.in-Both-Some.first.value c.in-Both-Some.second.value c.args.ty.now c.in-Both-Some.left.now c.in-Both-Some.right.now _ (sym c.form.ensures ∙ ap pattern_placed c.in-Both-Some.is-0) c.in-Both-Some.ensures.pair part

some_as : (o : Option (Bor Kind)) {P Q : Kind → Type 0} → ((a : Kind) → P a → Q a) → IfSome o (λ b. P b.now) → IfSome o (λ b. Q b.now)
some_as (Some b) f h = f b.now h
some_as None f h = tt

pub returns-in-None : goal.returns-in-None
returns-in-None t c =
    some_as c.unpaired-in-None.result
    (λ a h. in_second c.args.pattern.now c.in-Both-Some.first.value c.in-Both-Some.second.value c.args.ty.now c.in-Both-Some.left.now c.in-Both-Some.right.now a (sym c.form.ensures ∙ ap pattern_placed c.in-Both-Some.is-0) c.in-Both-Some.ensures.pair
    (subst (λ (p : PlacedPattern). Unpaired (pattern_of p) c.in-Both-Some.right.now a) c.deref-in-None.ensures h))
    c.unpaired-in-None.ensures

pub returns-in-Both-None : goal.returns-in-Both-None
returns-in-Both-None t c =
    let whole : c.args.pattern.now ≡ placed_both c.in-Both-None.field-0-0.value c.in-Both-None.field-1-0.value = sym c.form.ensures ∙ ap pattern_placed c.in-Both-None.is-0 in
    subst (λ (p : PlacedPattern). Unpaired (pattern_of p) c.args.ty.now c.args.ty.now) (sym whole) (unpaired c.in-Both-None.ensures.other)
