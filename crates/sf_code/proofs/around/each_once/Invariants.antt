use Rattle.std.proofs.Common.{◌≡◌, [], take}
use Rattle.sf_expr.specs.Meanings.{names_seen}
use Rattle.sf_code.specs.Compiling.{named_each, BindAsMany}
use Rattle.sf_code.specs.Around.{names_by_id, HoldsEach}
use Rattle.sf_code.proofs.around.each_once.Given as goal

abbrev pub invariant-loop-name : goal.invariant-loop-name
invariant-loop-name l = record {
  same : names_by_id l.exprs l.own.items ≡ names_seen l.seen.keys;
  bound : BindAsMany (named_each (names_by_id l.exprs (take l.name-index l.names))) (named_each (names_seen l.seen.keys));
  held : HoldsEach l.exprs l.own.items;
  none : l.names ≡ [] → l.own.items ≡ [];
}
