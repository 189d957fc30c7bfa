use Rattle.std.proofs.Common.{◌≡◌, length, take}
use Rattle.sf_state.specs.Standing.{AllFollow}
use Rattle.sf_state.specs.Machine.{Machine}
use Rattle.sf_state.proofs.state.renew_all.Given as goal

abbrev pub invariant-loop-place : goal.invariant-loop-place
invariant-loop-place l = (length l.own.items ≡ length l.states) × ((μ : Machine) → AllFollow μ (take l.place l.states) (take l.place l.own.items))
