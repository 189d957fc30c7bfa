use Rattle.std.proofs.Common.{arith, length, ap}
use Rattle.std.proofs.lemmas.Result.{err_from_is_err_and}
use Rattle.sf_func.specs.Signatures.{signatures_in}
use Rattle.sf_check.proofs.Templates.{header_at, one_more_typed, all_typed, template_breaks}
use Rattle.sf_check.proofs.typing.check_templates.Goals as goal

pub loop-template-preserved : goal.loop-template-preserved
loop-template-preserved c =
    one_more_typed (signatures_in c.args.functions.now) c.args.program.now c.loop-template.template-index c.loop-template.invariant c.template-item.result (header_at c.args.program.now _ _ _ c.templates-template-items.ensures.templates (omega arith) c.template-item.is) c.in_ok-check_template.ensures.ok

pub returns-in_err-check_template-clause-err : goal.returns-in_err-check_template-clause-err
returns-in_err-check_template-clause-err c =
    let p = err_from_is_err_and c.from_residual.result c.from_residual.ensures.1 in
    rw (p.1, p.2) (template_breaks (signatures_in c.args.functions.now) c.args.program.now c.loop-template.template-index c.loop-template.invariant c.template-item.result (header_at c.args.program.now _ _ _ c.templates-template-items.ensures.templates (omega arith) c.template-item.is) _ c.in_err-check_template.ensures.err)

pub returns-clause-ok : goal.returns-clause-ok
returns-clause-ok c =
    let e = ap length c.templates-template-items.ensures.templates in
    all_typed (signatures_in c.args.functions.now) c.args.program.now c.loop-template.template-index c.loop-template.invariant (omega arith)
