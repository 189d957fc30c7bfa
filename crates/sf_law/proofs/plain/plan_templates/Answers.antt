use Rattle.sf_expr.proofs.Entered.{keeps_trans}
use Rattle.sf_law.specs.Copies.{CopiesTemplate}
use Rattle.sf_law.proofs.Among.{keeps_same, zip_more, templates_kept}
use Rattle.sf_law.proofs.plain.plan_templates.Goals as goal

pub loop-template-init : goal.loop-template-init
loop-template-init c = record {
  kept = keeps_same c.args.expressions.now;
  copied = rw c.new-copies.ensures.items tt;
}

pub loop-template-preserved : goal.loop-template-preserved
loop-template-preserved c =
    let i = c.loop-template in
    let x = c.plan_template.new.expressions in
    let made = c.in_ok-plan_template.ensures in
    record {
      kept = keeps_trans c.args.expressions.now i.expressions x i.invariant.kept made.kept;
      copied = rw c.in_ok-push.ensures.items (zip_more (CopiesTemplate x) c.args.templates.now i.copies.items i.template-index c.template-item.result _ c.loop-template-test.true c.template-item.is (templates_kept i.expressions x made.kept _ _ i.invariant.copied) made.copied);
    }
