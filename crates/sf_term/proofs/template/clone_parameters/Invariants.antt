use Rattle.std.proofs.Common.{◌≡◌, take}
use Rattle.sf_term.proofs.template.clone_parameters.Given as goal

abbrev pub invariant-loop-parameter : goal.invariant-loop-parameter
invariant-loop-parameter l = l.copies.items ≡ take l.parameter-index l.parameters
