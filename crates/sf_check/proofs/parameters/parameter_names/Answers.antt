use Rattle.std.proofs.Common.{arith, ap}
use Rattle.sf_expr.specs.Meanings.{Entries}
use Rattle.sf_term.specs.Parameters.{parameters_of}
use Rattle.sf_mean.specs.Contexts.{parameters_inside}
use Rattle.sf_check.specs.Standing.{bindings_from}
use Rattle.sf_check.proofs.Contexts.{one_inside, one_fits}
use Rattle.sf_check.proofs.parameters.parameter_names.Goals as goal

pub loop-parameter-init : goal.loop-parameter-init
loop-parameter-init c = record {
  bound = ap (λ (es : Entries). parameters_inside (parameters_of c.args.parameters.now) (bindings_from es)) c.new-names.ensures;
  fit = λ rest. rest;
}

pub loop-parameter-preserved : goal.loop-parameter-preserved
loop-parameter-preserved c =
    let so = c.loop-parameter.invariant in
    let added = c.in_ok-add_parameter.ensures in
    record {
      bound = one_inside c.args.parameters.now c.loop-parameter.parameter-index c.parameter-item.result (omega arith) c.parameter-item.is added.bound so.bound;
      fit = λ rest. so.fit (one_fits c.args.parameters.now c.loop-parameter.parameter-index c.parameter-item.result (omega arith) c.parameter-item.is added.fits rest);
    }
