use Rattle.std.proofs.Common.{◌≡◌, length}
use Rattle.sf_reach.specs.Graphs.{AreSettled}
use Rattle.sf_reach.proofs.settling.settled.Given as goal

abbrev pub invariant-loop : goal.invariant-loop
invariant-loop l = record {
  long : length l.settled.items ≡ length l.graph;
  settled : AreSettled l.graph l.settled.items;
}
