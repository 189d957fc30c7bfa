use Rattle.std.proofs.Common.{◌+◌, length, sym, ap, subst, arith}
use Rattle.std.proofs.lemmas.Result.{err_from_is_err_and}
use Rattle.sf_term.specs.Parameters.{parameters_of}
use Rattle.sf_check.specs.Names.{names_of_set, parameter_names, AreDifferent}
use Rattle.sf_check.proofs.Templates.{header_at}
use Rattle.sf_check.proofs.Again.{HeadersNamed, header_more, name_again, parameter_again, all_headers, all_names}
use Rattle.sf_check.proofs.names.template_names.Goals as goal

pub returns-in_err-add_name-clause-refused : goal.returns-in_err-add_name-clause-refused
returns-in_err-add_name-clause-refused c =
    let p = c.args.program.now in
    let n = c.loop-template.template-index in
    let h = c.template-item.result in
    let at = header_at p c.templates-template-items.result.now n h c.templates-template-items.ensures.templates c.loop-template-test.true c.template-item.is in
    let e = err_from_is_err_and c.from_residual.result c.from_residual.ensures.1 in
    rw (e.1, e.2) (name_again p n h at (names_of_set c.loop-template.names) c.loop-template.invariant c.name.result.now c.name.ensures c.spot.result _ c.spot.ensures c.in_err-add_name.ensures.refused)

pub returns-in_err-check_parameters-clause-refused : goal.returns-in_err-check_parameters-clause-refused
returns-in_err-check_parameters-clause-refused c =
    let p = c.args.program.now in
    let n = c.loop-template.template-index in
    let h = c.template-item.result in
    let at = header_at p c.templates-template-items.result.now n h c.templates-template-items.ensures.templates c.loop-template-test.true c.template-item.is in
    let left = c.from_residual-in_err-check_parameters in
    let e = err_from_is_err_and left.result left.ensures.1 in
    let refused = rw c.parameters.ensures at c.in_err-check_parameters.ensures.refused in
    rw (e.1, e.2) (parameter_again p n h at (names_of_set c.loop-template.names) c.loop-template.invariant c.name.result.now c.name.ensures _ c.in_ok-add_name.ensures.new refused)

pub loop-template-preserved : goal.loop-template-preserved
loop-template-preserved c =
    let p = c.args.program.now in
    let n = c.loop-template.template-index in
    let h = c.template-item.result in
    let at = header_at p c.templates-template-items.result.now n h c.templates-template-items.ensures.templates c.loop-template-test.true c.template-item.is in
    let apart = subst (λ qs. AreDifferent (parameter_names (parameters_of qs))) c.parameters.ensures c.in_ok-check_parameters.ensures.different in
    subst (λ ns. HeadersNamed p ns (n + 1)) (sym c.in_ok-add_name.ensures.added)
    (header_more p n h at (names_of_set c.loop-template.names) c.loop-template.invariant c.name.result.now c.name.ensures c.in_ok-add_name.ensures.new apart)

pub returns-clause-names : goal.returns-clause-names
returns-clause-names c =
    let same = ap length c.templates-template-items.ensures.templates in
    all_names c.args.program.now (names_of_set c.loop-template.names) c.loop-template.template-index c.loop-template.invariant (omega (arith, c.loop-template-test.false))

pub returns-clause-different : goal.returns-clause-different
returns-clause-different c =
    let same = ap length c.templates-template-items.ensures.templates in
    all_headers c.args.program.now (names_of_set c.loop-template.names) c.loop-template.template-index c.loop-template.invariant (omega (arith, c.loop-template-test.false))
