use Rattle.sf_reach.specs.Graphs.{AreSettled}
use Rattle.sf_reach.proofs.settling.settle_more.Given as goal

abbrev pub invariant-loop-template : goal.invariant-loop-template
invariant-loop-template l = AreSettled l.graph l.settled

abbrev pub invariant-loop-template-2 : goal.invariant-loop-template-2
invariant-loop-template-2 l = AreSettled l.graph l.settled
