use Rattle.std.proofs.Common.{◌≡◌, ◌+◌, [], take, length, sym, ap, ◌∙◌, subst, arith}
use Rattle.std.proofs.Math.Seq.{take-length}
use Rattle.sf_state.specs.Standing.{AllFollow, none_follow}
use Rattle.sf_state.proofs.Copies.{follow_next}
use Rattle.sf_state.proofs.state.share_all.Goals as goal

pub loop-state-init : goal.loop-state-init
loop-state-init c = record {
  follow = λ μ. subst (λ bs. AllFollow μ [] bs) (sym c.in_ok-shared.ensures.items) none_follow;
  as_many = c.in_ok-shared.ensures.len;
  room = omega (arith, c.in_ok-shared.ensures.capacity);
}

pub push_reserved-requires : goal.push_reserved-requires
push_reserved-requires c = omega (arith, c.loop-state.invariant.as_many, c.loop-state.invariant.room, c.loop-state-test.true)

pub loop-state-preserved : goal.loop-state-preserved
loop-state-preserved c = record {
  follow = λ μ.
      follow_next μ c.args.states.now c.loop-state.shared.items c.push_reserved.new.self.items c.loop-state.state-index c.state-item.result c.in_ok-share.field-0
      (c.loop-state.invariant.follow μ) c.loop-state-test.true c.state-item.is (c.in_ok-share.ensures μ) c.push_reserved.ensures.items;
  as_many = c.push_reserved.ensures.len ∙ ap (λ n. n + 1) c.loop-state.invariant.as_many;
  room = omega (arith, c.loop-state.invariant.room, c.push_reserved.ensures.capacity);
}

pub returns : goal.returns
returns c = λ μ.
    let states = c.args.states.now in
    let last : c.loop-state.state-index ≡ length states = omega (arith, c.loop-state.auto.state-index-end, c.loop-state-test.false) in
    subst (λ bs. AllFollow μ bs c.loop-state.shared.items) (ap (λ k. take k states) last ∙ take-length states) (c.loop-state.invariant.follow μ)
