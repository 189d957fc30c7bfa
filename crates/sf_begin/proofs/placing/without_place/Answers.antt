use Rattle.std.proofs.Common.{refl, ap, ◌∙◌, Vec}
use Rattle.std.specs.List.{remove}
use Rattle.std.specs.declared.alloc.Global.{Global}
use Rattle.sf_state.specs.declared.state.State.{State}
use Rattle.sf_state.specs.declared.state.Gathered.{Gathered}
use Rattle.sf_begin.proofs.Places.{member_dropped}
use Rattle.sf_begin.proofs.placing.without_place.Goals as goal

pub returns : goal.returns
returns c = λ μ k ms at G.
    let h : Gathered = record { keys = c.in_ok-keys.keys; states = c.in_ok-states.states; wait = c.args.members.wait } in
    member_dropped μ c.args.members k c.in_ok-own.own.items (c.in_ok-own.ensures μ) h refl c.args.at
    (c.in_ok-keys.ensures.ok ∙ c.remove.ensures ∙ ap (λ ks. remove ks c.args.at) c.in_ok-less.ensures)
    (λ short. ap (λ (v : Vec State Global). v.items) c.in_ok-states.ensures.ok ∙ c.take_out.ensures) ms at G
