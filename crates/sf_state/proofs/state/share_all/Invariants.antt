use Rattle.std.proofs.Common.{◌≡◌, ◌≤◌, length, take}
use Rattle.std.specs.Prelude.{vec_len, vec_capacity}
use Rattle.sf_state.specs.Standing.{AllFollow}
use Rattle.sf_state.specs.Machine.{Machine}
use Rattle.sf_state.proofs.state.share_all.Given as goal

abbrev pub invariant-loop-state : goal.invariant-loop-state
invariant-loop-state l = record {
  follow : (μ : Machine) → AllFollow μ (take l.state-index l.states) l.shared.items;
  as_many : vec_len l.shared ≡ l.state-index;
  room : length l.states ≤ vec_capacity l.shared;
}
