use Rattle.std.proofs.Common.{None, ap, ◌∙◌, Vec}
use Rattle.std.specs.declared.alloc.Global.{Global}
use Rattle.sf_state.specs.declared.state.State.{State}
use Rattle.sf_state.specs.declared.state.Gathered.{Gathered}
use Rattle.sf_state.proofs.Copies.{none_held}
use Rattle.sf_state.proofs.state.Gathered.none.Goals as goal

pub returns : goal.returns
returns c = λ μ L.
    let h : Gathered = record { keys = c.in_ok-keys.keys; states = c.in_ok-states.states; wait = None } in
    none_held μ h (c.in_ok-keys.ensures.ok ∙ c.new.ensures) (ap (λ (v : Vec State Global). v.items) c.in_ok-states.ensures.ok ∙ c.new-3.ensures.items)
