use Rattle.std.proofs.Common.{◌≡◌, map, drop}
use Rattle.sf_value.specs.View.{key_of}
use Rattle.sf_value.specs.Keys.{key_index}
use Rattle.sf_value.proofs.Sought.{from_at}
use Rattle.sf_value.proofs.keys.place_among.Given as goal

abbrev pub invariant-loop-at : goal.invariant-loop-at
invariant-loop-at l = key_index (key_of l.key) (map key_of l.keys) ≡ from_at l.at (key_index (key_of l.key) (map key_of (drop l.at l.keys)))
