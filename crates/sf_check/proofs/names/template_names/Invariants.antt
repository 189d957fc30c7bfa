use Rattle.sf_check.specs.Names.{names_of_set}
use Rattle.sf_check.proofs.Again.{HeadersNamed}
use Rattle.sf_check.proofs.names.template_names.Given as goal

abbrev pub invariant-loop-template : goal.invariant-loop-template
invariant-loop-template l = HeadersNamed l.program (names_of_set l.names) l.template-index
