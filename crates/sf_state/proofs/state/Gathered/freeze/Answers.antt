use Rattle.std.proofs.Common.{Some, ap}
use Rattle.sf_state.specs.declared.state.Gathered.{Gathered}
use Rattle.sf_state.proofs.Copies.{held_freeze}
use Rattle.sf_state.proofs.state.Gathered.freeze.Goals as goal

pub returns : goal.returns
returns c = λ μ.
    let h : Gathered = record { keys = c.in_ok-under.under; states = c.in_ok-all.all; wait = Some c.unwrap_or.result } in
    held_freeze μ c.args.wait c.args.self.now h c.in_ok-under.ensures.cases c.in_ok-all.ensures.cases (ap Some c.unwrap_or.ensures)
