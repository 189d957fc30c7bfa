use Rattle.std.proofs.Common.{ℕ, ◌<◌}
use Rattle.sf_reach.specs.Endless.{HasNoEndlessCall}
use Rattle.sf_reach.proofs.endless.first_endless_call.Given as goal

abbrev pub invariant-loop-template : goal.invariant-loop-template
invariant-loop-template l = (i : ℕ) → i < l.template → HasNoEndlessCall l.program i
