use Rattle.std.proofs.Common.{◌≤◌, vec_len}
use Rattle.sf_state.specs.declared.env.Env.{size-Env}
use Rattle.sf_state.proofs.+state.Given as goal

abbrev pub invariant-env::Env::let_go_all-loop-self : goal.invariant-env::Env::let_go_all-loop-self
invariant-env::Env::let_go_all-loop-self l = size-Env l.self ≤ size-Env l.initial.self

-- what a call has left grows no deeper
abbrev pub invariant-env::Call::left-loop-given : goal.invariant-env::Call::left-loop-given
invariant-env::Call::left-loop-given l = goal.no_deeper-env::Call::left-loop-given l

abbrev pub decreases-env::Call::left-loop-given : goal.decreases-env::Call::left-loop-given
decreases-env::Call::left-loop-given l = vec_len l.self.arguments

-- what members have left grows no deeper
abbrev pub invariant-state::Gathered::left-loop-state : goal.invariant-state::Gathered::left-loop-state
invariant-state::Gathered::left-loop-state l = goal.no_deeper-state::Gathered::left-loop-state l

abbrev pub decreases-state::Gathered::left-loop-state : goal.decreases-state::Gathered::left-loop-state
decreases-state::Gathered::left-loop-state l = vec_len l.states
