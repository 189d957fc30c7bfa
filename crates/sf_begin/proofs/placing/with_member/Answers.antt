use Rattle.std.proofs.Common.{◌≡◌, ◌∷◌, ◌++◌, [], Some, None, refl, sym, ap, ◌∙◌, Vec}
use Rattle.std.specs.declared.alloc.Global.{Global}
use Rattle.sf_value.specs.Keys.{key_of, key_index}
use Rattle.sf_state.specs.declared.state.State.{State}
use Rattle.sf_state.specs.declared.state.Gathered.{Gathered}
use Rattle.sf_begin.proofs.Sought.{put_behind}
use Rattle.sf_begin.proofs.Places.{member_put, member_pushed}
use Rattle.sf_begin.proofs.placing.with_member.Goals as goal

pub returns-in_ok-states-in-Some : goal.returns-in_ok-states-in-Some
returns-in_ok-states-in-Some c = λ μ ms P G A.
    let k = key_of c.args.key in
    let at : key_index k c.args.members.keys.value ≡ Some c.in-Some.at = ap (key_index k) (sym c.deref.ensures) ∙ sym c.place.ensures ∙ c.in-Some.is in
    let h : Gathered = record { keys = c.args.members.keys; states = c.in_ok-states-in-Some.states; wait = c.args.members.wait } in
    member_put μ c.args.members k c.in_ok-own.own.items (c.in_ok-own.ensures μ) c.args.state h refl c.in-Some.at at refl
    (λ short. ap (λ (v : Vec State Global). v.items) c.in_ok-states-in-Some.ensures.ok ∙ c.put.ensures) ms P G A

pub returns-in_ok-states-in-None : goal.returns-in_ok-states-in-None
returns-in_ok-states-in-None c = λ μ ms P G A.
    let k = key_of c.args.key in
    let at : key_index k c.args.members.keys.value ≡ None = ap (key_index k) (sym c.deref.ensures) ∙ sym c.place.ensures ∙ c.in-None.is in
    let h : Gathered = record { keys = c.in_ok-keys-in-None.keys; states = c.in_ok-states-in-None.states; wait = c.args.members.wait } in
    member_pushed μ c.args.members k c.in_ok-own.own.items (c.in_ok-own.ensures μ) c.args.state h refl at
    (c.in_ok-keys-in-None.ensures.ok ∙ put_behind k c.in_ok-more-in-None.more c.push.new.self c.in_ok-push-in-None.field-0 (ap (key_index k) c.in_ok-more-in-None.ensures ∙ at) c.in_ok-push-in-None.ensures.added c.in_ok-push-in-None.ensures.keys ∙ ap (λ ks. ks ++ k ∷ []) c.in_ok-more-in-None.ensures)
    (ap (λ (v : Vec State Global). v.items) c.in_ok-states-in-None.ensures.ok ∙ c.in_ok-push-in-None-2.ensures.items) ms P G A
