use Rattle.std.proofs.Common.{◌≡◌, ◌++◌, take}
use Rattle.std.specs.List.{flat_map}
use Rattle.sf_spelling.specs.Spelling.{escaped}
use Rattle.sf_spelling.proofs.write.append_escaped.Given as goal

abbrev pub invariant-loop-c : goal.invariant-loop-c
invariant-loop-c l = l.out.items ≡ l.fn.out.items ++ flat_map escaped (take l.c-index l.bytes)
