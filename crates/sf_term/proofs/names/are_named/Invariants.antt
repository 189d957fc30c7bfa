use Rattle.std.proofs.Common.{take}
use Rattle.sf_term.specs.Names.{AreNamed}
use Rattle.sf_term.proofs.names.are_named.Given as goal

abbrev pub invariant-loop-parameter : goal.invariant-loop-parameter
invariant-loop-parameter l = AreNamed (take l.parameter-index l.parameters)
