use Rattle.std.proofs.Common.{arith}
use Rattle.sf_func.specs.Signatures.{signatures_in}
use Rattle.sf_expr.proofs.Bound.{on_err}
use Rattle.sf_differ.specs.Differences.{lacks_room}
use Rattle.sf_differ.proofs.Told.{told_as}
use Rattle.sf_check.proofs.Templates.{header_at, one_more_typed}
use Rattle.sf_check.proofs.differing.explain_templates.Goals as goal

pub loop-template-preserved : goal.loop-template-preserved
loop-template-preserved c =
    one_more_typed (signatures_in c.args.functions.now) c.args.program.now c.loop-template.template-index c.loop-template.invariant c.template-item.result (header_at c.args.program.now _ _ _ c.templates-template-items.ensures.templates (omega arith) c.template-item.is) c.in-Ok.ensures.ok

pub returns-in-Err-Memory : goal.returns-in-Err-Memory
returns-in-Err-Memory c = lacks_room

pub returns-in-Err-Broken : goal.returns-in-Err-Broken
returns-in-Err-Broken c =
    on_err c.explain_template.result
    (λ b h. told_as (λ d k. record {
      names = c.requires.different;
      place = c.loop-template.template-index;
      header = c.template-item.result;
      at = header_at c.args.program.now _ _ _ c.templates-template-items.ensures.templates (omega arith) c.template-item.is;
      typed = λ i t below at. c.loop-template.invariant i t below at;
      differs = k;
    }) h) c.explain_template.ensures
