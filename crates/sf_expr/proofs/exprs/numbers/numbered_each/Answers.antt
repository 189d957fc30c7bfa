use Rattle.std.proofs.Common.{◌≡◌, List, length, take, ap, subst, ◌∙◌, arith}
use Rattle.std.proofs.Math.Seq.{take-length}
use Rattle.std.specs.List.{AllZip}
use Rattle.sf_expr.specs.declared.exprs.numbers.NumberedPattern.{NumberedPattern}
use Rattle.sf_expr.specs.Patterns.{PlacedPattern, pattern_of}
use Rattle.sf_expr.specs.Numbered.{IsNumbered}
use Rattle.sf_expr.proofs.Numbered.{pairs_still, pair_more, spelled_still}
use Rattle.sf_expr.proofs.exprs.numbers.numbered_each.Goals as goal

pub loop-pattern-init : goal.loop-pattern-init
loop-pattern-init c = record { kept = λ x i h. h; given = rw c.in_ok-each.ensures.items tt }

pub loop-pattern-preserved : goal.loop-pattern-preserved
loop-pattern-preserved c =
    let js = c.loop-pattern.texts.keys in
    let ks = c.numbered.new.texts.keys in
    let keeps = c.in_ok-numbers.ensures.kept in
    record {
      kept = λ x i h. keeps x i (c.loop-pattern.invariant.kept x i h);
      given = rw c.in_ok-push.ensures.items (pair_more (λ (p : PlacedPattern) (s : NumberedPattern). IsNumbered ks (pattern_of p) s) c.args.patterns.now c.loop-pattern.each.items c.loop-pattern.pattern-index c.pattern-item.result c.in_ok-numbers.numbers c.loop-pattern-test.true c.pattern-item.is
          (pairs_still (λ (p : PlacedPattern) (s : NumberedPattern). IsNumbered js (pattern_of p) s) (λ (p : PlacedPattern) (s : NumberedPattern). IsNumbered ks (pattern_of p) s) (λ p s. spelled_still js ks keeps (pattern_of p) s) (take c.loop-pattern.pattern-index c.args.patterns.now) c.loop-pattern.each.items c.loop-pattern.invariant.given)
          c.in_ok-numbers.ensures.given);
    }

pub returns-clause-kept : goal.returns-clause-kept
returns-clause-kept c = c.loop-pattern.invariant.kept

pub returns-clause-given : goal.returns-clause-given
returns-clause-given c =
    let all : c.loop-pattern.pattern-index ≡ length c.args.patterns.now = omega (arith, c.loop-pattern-test.false, c.loop-pattern.auto.pattern-index-end) in
    subst (λ (ps : List PlacedPattern). AllZip (λ p s. IsNumbered c.loop-pattern.texts.keys (pattern_of p) s) ps c.loop-pattern.each.items) (ap (λ k. take k c.args.patterns.now) all ∙ take-length c.args.patterns.now) c.loop-pattern.invariant.given
