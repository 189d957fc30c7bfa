use Rattle.std.proofs.Common.{◌≡◌, All, length, take}
use Rattle.sf_reach.specs.declared.graph.Call.{Call}
use Rattle.sf_reach.specs.Graphs.{calls_at, LeadsOn, LeadElsewhere}
use Rattle.sf_reach.proofs.leading.first_call_back.Given as goal

abbrev pub invariant-loop-call : goal.invariant-loop-call
invariant-loop-call l = record {
  elsewhere : LeadElsewhere l.graph l.template l.seen.items;
  long : length l.seen.items ≡ length l.graph;
  none : All (λ (c : Call). LeadsOn l.graph c.callee l.template → ⊥) (take l.call-index (calls_at l.graph l.template));
}
