use Rattle.std.proofs.Common.{arith}
use Rattle.sf_optimise.proofs.Forms.{ok_then}
use Rattle.sf_optimise.proofs.Boundary.{normal_still}
use Rattle.sf_optimise.proofs.Looped.{sides_meet, sides_made, exchange_meets, exchange_made}
use Rattle.sf_optimise.proofs.sequence.+in_sequence.Goals as goal

pub in_sequence-requires : goal.in_sequence-requires
in_sequence-requires t c =
    let meet = sides_meet c.args.plan.now c.args.first c.args.second c.in-Sides.f c.in-Sides.g c.in-Sides.ensures c.requires.first c.requires.second in
    (omega (arith, meet.below), (meet.first_part, meet.second_part))

pub in_sequence-requires-in-Exchange : goal.in_sequence-requires-in-Exchange
in_sequence-requires-in-Exchange t c =
    let meet = exchange_meets c.args.plan.now c.args.first c.args.second c.in-Exchange.f c.in-Exchange.g c.in-Exchange.h c.in-Exchange.k c.in-Exchange.ensures c.requires.first c.requires.second in
    (omega (arith, meet.first_below), (meet.one, meet.three))

pub in_sequence-requires-in-Exchange-2 : goal.in_sequence-requires-in-Exchange-2
in_sequence-requires-in-Exchange-2 t c =
    let meet = exchange_meets c.args.plan.now c.args.first c.args.second c.in-Exchange.f c.in-Exchange.g c.in-Exchange.h c.in-Exchange.k c.in-Exchange.ensures c.requires.first c.requires.second in
    let grows = c.in_sequence-in-Exchange.ensures.grows in
    (omega (arith, meet.second_below), (normal_still grows meet.two, normal_still grows meet.four))

pub returns-in_ok-part-in-Sides-clause-ok : goal.returns-in_ok-part-in-Sides-clause-ok
returns-in_ok-part-in-Sides-clause-ok t c =
    let meet = sides_meet c.args.plan.now c.args.first c.args.second c.in-Sides.f c.in-Sides.g c.in-Sides.ensures c.requires.first c.requires.second in
    ok_then c.on_a_side.result (λ a h. sides_made c.args.plan.now c.in_sequence.new.plan c.on_a_side.new.plan c.args.first c.args.second c.in-Sides.f c.in-Sides.g c.in_ok-part-in-Sides.part a meet c.in_ok-part-in-Sides.ensures.ok h) c.on_a_side.ensures.ok

pub returns-in_ok-right-in-Exchange-clause-ok : goal.returns-in_ok-right-in-Exchange-clause-ok
returns-in_ok-right-in-Exchange-clause-ok t c =
    let meet = exchange_meets c.args.plan.now c.args.first c.args.second c.in-Exchange.f c.in-Exchange.g c.in-Exchange.h c.in-Exchange.k c.in-Exchange.ensures c.requires.first c.requires.second in
    ok_then c.in_parallel.result
    (λ a h. exchange_made c.args.plan.now c.in_sequence-in-Exchange.new.plan c.in_sequence-in-Exchange-2.new.plan c.in_parallel.new.plan c.args.first c.args.second c.in-Exchange.f c.in-Exchange.g c.in-Exchange.h c.in-Exchange.k
    c.in_ok-left-in-Exchange.left c.in_ok-right-in-Exchange.right a meet c.in_sequence-in-Exchange.ensures.grows c.in_sequence-in-Exchange-2.ensures.grows c.in_ok-left-in-Exchange.ensures.ok c.in_ok-right-in-Exchange.ensures.ok h)
    c.in_parallel.ensures.ok
