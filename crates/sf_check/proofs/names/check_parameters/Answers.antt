use Rattle.std.proofs.Common.{◌+◌, length, sym, refl, subst, arith}
use Rattle.std.proofs.lemmas.Option.{slice_get_read}
use Rattle.std.proofs.lemmas.Result.{err_from_is_err_and}
use Rattle.sf_term.specs.Parameters.{parameters_of}
use Rattle.sf_check.specs.Names.{names_of_set, parameter_names}
use Rattle.sf_check.proofs.Naming.{Named, all_named, parameters_counted}
use Rattle.sf_check.proofs.Again.{parameter_more, parameter_refused}
use Rattle.sf_check.proofs.names.check_parameters.Goals as goal

pub returns-in_err-add_name-clause-refused : goal.returns-in_err-add_name-clause-refused
returns-in_err-add_name-clause-refused c =
    let qs = c.args.parameters.now in
    let i = c.loop-parameter.parameter-index in
    let q = c.parameter-item.result in
    let at = slice_get_read qs (length qs) i q refl c.loop-parameter-test.true c.parameter-item.is in
    let p = err_from_is_err_and c.from_residual.result c.from_residual.ensures.1 in
    rw (p.1, p.2) (parameter_refused qs i q at (names_of_set c.loop-parameter.names) c.loop-parameter.invariant c.name.result.now c.name.ensures c.spot.result _ c.spot.ensures c.in_err-add_name.ensures.refused)

pub loop-parameter-preserved : goal.loop-parameter-preserved
loop-parameter-preserved c =
    let qs = c.args.parameters.now in
    let i = c.loop-parameter.parameter-index in
    let q = c.parameter-item.result in
    let at = slice_get_read qs (length qs) i q refl c.loop-parameter-test.true c.parameter-item.is in
    subst (λ ns. Named (parameter_names (parameters_of qs)) ns (i + 1)) (sym c.in_ok-add_name.ensures.added)
    (parameter_more qs i q at (names_of_set c.loop-parameter.names) c.loop-parameter.invariant c.name.result.now c.name.ensures c.in_ok-add_name.ensures.new)

pub returns-clause-different : goal.returns-clause-different
returns-clause-different c =
    let qs = c.args.parameters.now in
    let count = parameters_counted qs in
    (all_named (parameter_names (parameters_of qs)) (names_of_set c.loop-parameter.names) c.loop-parameter.parameter-index c.loop-parameter.invariant (omega (arith, c.loop-parameter-test.false))).1
