use Rattle.std.proofs.Common.{refl}
use Rattle.sf_state.specs.declared.state.Gathered.{Gathered}
use Rattle.sf_state.proofs.Copies.{held_same}
use Rattle.sf_state.proofs.state.Gathered.share.Goals as goal

pub returns : goal.returns
returns c =
    let h : Gathered = record { keys = c.in_ok-keys.keys; states = c.in_ok-states.states; wait = c.args.self.now.wait } in
    held_same c.args.self.now h c.in_ok-keys.ensures.cases c.in_ok-states.ensures.cases refl
