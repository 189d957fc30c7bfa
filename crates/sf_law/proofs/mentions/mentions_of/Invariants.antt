use Rattle.std.proofs.Common.{◌≡◌, length}
use Rattle.sf_law.proofs.Covering.{EachIsCovered}
use Rattle.sf_law.proofs.mentions.mentions_of.Given as goal

abbrev pub invariant-loop-number : goal.invariant-loop-number
invariant-loop-number l = record {
  count : length l.lists.items ≡ l.number;
  covered : EachIsCovered l.plan l.lists.items;
}
