use Rattle.std.proofs.Common.{◌+◌, ◌≤◌, length, vec_len, vec_capacity, sym, subst, ◌∙◌}
use Rattle.sf_engine.proofs.Following.{nothing_left, going_first, going_on, gone, gone_wrong, has_room, room_left}
use Rattle.sf_engine.proofs.engine.Engine.follow.Goals as goal

pub loop-dt-init : goal.loop-dt-init
loop-dt-init g c = (
  subst (λ xs. vec_len c.args.samples.now + length xs ≤ vec_capacity c.args.samples.now) (sym c.into_iter-dt-iterator.ensures.into_iter_gives.0) c.requires,
  going_first c.args.self.now c.args.steps.items _ c.args.samples.now.items c.into_iter-dt-iterator.ensures.into_iter_gives.0,
)

pub push_reserved-requires : goal.push_reserved-requires
push_reserved-requires g c = has_room _ _ _ _ _ c.in-Some.ensures.steps.0 c.loop-dt.invariant.0

pub loop-dt-preserved : goal.loop-dt-preserved
loop-dt-preserved g c = (
  room_left _ _ _ _ _ _ _ c.in-Some.ensures.steps.0 c.loop-dt.invariant.0 c.push_reserved.ensures.len c.push_reserved.ensures.capacity,
  going_on c.loop-dt.invariant.1 c.in-Some.ensures.steps.0 c.step.ensures.running c.in-Ok.is c.push_reserved.ensures.items,
)

pub returns-in-Err : goal.returns-in-Err
returns-in-Err g c = gone_wrong c.loop-dt.invariant.1 c.in-Some.ensures.steps.0 c.step.ensures.running c.in-Err.is

pub returns : goal.returns
returns g c = gone c.loop-dt.invariant.1 (nothing_left _ (sym c.loop-dt.dt-iterator.rest.ok.0 ∙ c.in-None.ensures.steps.0))
