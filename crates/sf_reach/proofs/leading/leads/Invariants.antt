use Rattle.std.proofs.Common.{◌+◌, ◌*◌, ◌≤◌, length, take}
use Rattle.sf_reach.specs.Graphs.{calls_at, unmarked}
use Rattle.sf_reach.proofs.Led.{Searched, Following}
use Rattle.sf_reach.proofs.leading.leads.Given as goal

abbrev pub invariant-loop-call : goal.invariant-loop-call
invariant-loop-call l = record {
  following : Following l.graph l.from l.to l.template (take l.call-index (calls_at l.graph l.template)) l.seen l.left.items;
  less : 2 * unmarked l.seen + length l.left.items ≤ 2 * unmarked l.initial.seen + length l.initial.left.items;
}

abbrev pub invariant-loop-template : goal.invariant-loop-template
invariant-loop-template l = Searched l.graph l.from l.to l.seen l.left.items

-- what is not seen, and what is left
abbrev pub decreases-loop-template : goal.decreases-loop-template
decreases-loop-template l = 2 * unmarked l.seen + length l.left.items
