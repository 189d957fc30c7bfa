use Rattle.sf_reach.proofs.Gathered.{IsGraphOfFirst}
use Rattle.sf_reach.proofs.graph.graph_of.Given as goal

abbrev pub invariant-loop-template : goal.invariant-loop-template
invariant-loop-template l = IsGraphOfFirst l.program l.graph.items l.template-index
