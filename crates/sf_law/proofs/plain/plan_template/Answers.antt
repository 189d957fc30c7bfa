use Rattle.std.proofs.Common.{◌≡◌, ◌<◌, length, get_or, subst}
use Rattle.sf_expr.proofs.Entered.{keeps_trans}
use Rattle.sf_law.specs.Copies.{CopiesParameter}
use Rattle.sf_law.proofs.Among.{keeps_same, zip_more, parameters_kept}
use Rattle.sf_law.proofs.plain.plan_template.Goals as goal

pub loop-parameter-init : goal.loop-parameter-init
loop-parameter-init c = record {
  kept = keeps_same c.args.expressions.now;
  copied = rw c.new-parameters.ensures.items tt;
}

pub loop-parameter-preserved : goal.loop-parameter-preserved
loop-parameter-preserved c =
    let i = c.loop-parameter in
    let x = c.plan_parameter.new.expressions in
    let made = c.in_ok-plan_parameter.ensures in
    let items = c.parameters-parameter-items.result.now in
    let same : items ≡ c.args.template.now.parameters = c.parameters-parameter-items.ensures in
    let below = subst (λ qs. i.parameter-index < length qs) same c.loop-parameter-test.true in
    let at = subst (λ qs. c.parameter-item.result ≡ get_or qs i.parameter-index c.parameter-item.result) same c.parameter-item.is in
    record {
      kept = keeps_trans c.args.expressions.now i.expressions x i.invariant.kept made.kept;
      copied = rw c.in_ok-push.ensures.items (zip_more (CopiesParameter x) c.args.template.now.parameters i.parameters.items i.parameter-index c.parameter-item.result _ below at (parameters_kept i.expressions x made.kept _ _ i.invariant.copied) made.copied);
    }
