use Rattle.std.proofs.Common.{◌≡◌, take, length, sym, ap, ◌∙◌, refl, arith}
use Rattle.std.proofs.Math.Seq.{take-length}
use Rattle.std.proofs.lemmas.List.{length-set}
use Rattle.sf_state.specs.Standing.{none_follow}
use Rattle.sf_state.proofs.Copies.{follow_set}
use Rattle.sf_state.proofs.state.renew_all.Goals as goal

pub loop-place-init : goal.loop-place-init
loop-place-init c = (c.requires, λ μ. none_follow)

pub loop-place-preserved : goal.loop-place-preserved
loop-place-preserved c =
    let l = c.loop-place in (
      length-set l.own.items l.place c.renew.new.self ∙ l.invariant.0,
      λ μ.
          follow_set μ c.args.states.now l.own.items _ l.place c.index-states-place.result c.renew.new.self
          (l.invariant.1 μ) c.loop-place-test.true (omega (arith, c.loop-place-test.true, l.invariant.0)) c.index-states-place.is (c.in_ok-renew.ensures μ) refl,
    )

pub returns : goal.returns
returns c = λ μ.
    let states = c.args.states.now in
    let own = c.loop-place.own.items in
    let last : c.loop-place.place ≡ length states = omega (arith, c.loop-place.auto.place-end, c.loop-place-test.false) in
    let whole : take c.loop-place.place states ≡ states = ap (λ k. take k states) last ∙ take-length states in
    let all : take c.loop-place.place own ≡ own = ap (λ k. take k own) (last ∙ sym c.loop-place.invariant.0) ∙ take-length own in
    rw (whole, all) at (c.loop-place.invariant.1 μ)
