use Rattle.std.proofs.Common.{◌≡◌, length, take, ap, subst, ◌∙◌, arith}
use Rattle.std.proofs.Math.Seq.{take-length}
use Rattle.std.specs.List.{AllZip}
use Rattle.sf_value.specs.Values.{Name}
use Rattle.sf_expr.specs.Numbered.{IsNumber}
use Rattle.sf_expr.proofs.Numbered.{pairs_still, pair_more}
use Rattle.sf_expr.proofs.exprs.numbers.numbers_of.Goals as goal

pub loop-name-init : goal.loop-name-init
loop-name-init c = record { kept = λ x i h. h; given = rw c.in_ok-numbers.ensures.items tt }

pub loop-name-preserved : goal.loop-name-preserved
loop-name-preserved c =
    let js = c.loop-name.texts.keys in
    let ks = c.number_of.new.texts.keys in
    let keeps = c.in_ok-number.ensures.kept in
    record {
      kept = λ x i h. keeps x i (c.loop-name.invariant.kept x i h);
      given = rw c.in_ok-push.ensures.items (pair_more (IsNumber ks) c.args.names.now c.loop-name.numbers.items c.loop-name.name-index c.name-item.result c.in_ok-number.number c.loop-name-test.true c.name-item.is
          (pairs_still (IsNumber js) (IsNumber ks) keeps (take c.loop-name.name-index c.args.names.now) c.loop-name.numbers.items c.loop-name.invariant.given)
          (subst (λ (y : Name). IsNumber ks y c.in_ok-number.number) c.text.ensures c.in_ok-number.ensures.given));
    }

pub returns-clause-kept : goal.returns-clause-kept
returns-clause-kept c = c.loop-name.invariant.kept

pub returns-clause-given : goal.returns-clause-given
returns-clause-given c =
    let all : c.loop-name.name-index ≡ length c.args.names.now = omega (arith, c.loop-name-test.false, c.loop-name.auto.name-index-end) in
    subst (λ ns. AllZip (IsNumber c.loop-name.texts.keys) ns c.loop-name.numbers.items) (ap (λ k. take k c.args.names.now) all ∙ take-length c.args.names.now) c.loop-name.invariant.given
