use Rattle.std.proofs.Common.{◌≡◌, [], All, drop}
use Rattle.sf_value.specs.Values.{Name}
use Rattle.sf_expr.specs.Scopes.{frame_entries}
use Rattle.sf_term.specs.Parameters.{NameKind, parameters_of}
use Rattle.sf_mean.specs.Contexts.{parameters_inside}
use Rattle.sf_mean.specs.Typing.{ParameterFits}
use Rattle.sf_check.specs.Standing.{bindings_from}
use Rattle.sf_check.proofs.parameters.parameter_names.Given as goal

abbrev pub invariant-loop-parameter : goal.invariant-loop-parameter
invariant-loop-parameter l = record {
  bound : parameters_inside (parameters_of (drop l.parameter-index l.parameters)) (bindings_from (frame_entries l.names)) ≡ parameters_inside (parameters_of l.parameters) [];
  fit : All (λ (q : Name × NameKind). ParameterFits q.1) (parameters_of (drop l.parameter-index l.parameters)) → All (λ (q : Name × NameKind). ParameterFits q.1) (parameters_of l.parameters);
}
