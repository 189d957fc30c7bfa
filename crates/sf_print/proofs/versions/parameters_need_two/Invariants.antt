use Rattle.std.proofs.Common.{◌≡◌, false, take}
use Rattle.sf_print.specs.Versions.{parameters_need_two}
use Rattle.sf_print.proofs.versions.parameters_need_two.Given as goal

abbrev pub invariant-loop-parameter : goal.invariant-loop-parameter
invariant-loop-parameter l = parameters_need_two (take l.parameter-index l.parameters) ≡ false
