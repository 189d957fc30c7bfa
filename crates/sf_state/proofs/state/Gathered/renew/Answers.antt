use Rattle.std.proofs.Common.{refl}
use Rattle.sf_state.specs.declared.state.Gathered.{Gathered}
use Rattle.sf_state.proofs.Copies.{held_follow}
use Rattle.sf_state.proofs.state.Gathered.renew.Goals as goal

pub returns : goal.returns
returns c = λ μ.
    let h : Gathered = record { keys = c.in_ok-keys.keys; states = c.renew_list.new.own; wait = c.args.other.now.wait } in
    held_follow μ c.args.other.now h c.in_ok-keys.ensures.cases (c.in_ok-renew_list.ensures μ) refl
