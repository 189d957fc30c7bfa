use Rattle.std.proofs.Common.{◌≡◌, map, take}
use Rattle.sf_value.specs.View.{key_of}
use Rattle.sf_value.proofs.keys.indexed.Given as goal

abbrev pub invariant-loop-key : goal.invariant-loop-key
invariant-loop-key l = l.index ≡ map key_of (take l.key-index l.keys)
