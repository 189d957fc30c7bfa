use Rattle.sf_term.specs.Parameters.{parameters_of}
use Rattle.sf_check.specs.Names.{names_of_set, parameter_names}
use Rattle.sf_check.proofs.Naming.{Named}
use Rattle.sf_check.proofs.names.check_parameters.Given as goal

abbrev pub invariant-loop-parameter : goal.invariant-loop-parameter
invariant-loop-parameter l = Named (parameter_names (parameters_of l.parameters)) (names_of_set l.names) l.parameter-index
