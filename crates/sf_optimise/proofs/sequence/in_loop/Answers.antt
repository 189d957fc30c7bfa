use Rattle.sf_law.specs.Arena.{plan_expression_at}
use Rattle.sf_optimise.proofs.Forms.{ok_then}
use Rattle.sf_optimise.proofs.Boundary.{normal_still}
use Rattle.sf_optimise.proofs.Looped.{side_normal, loop_held, loop_normal, before_plan, behind_plan, before_normal, behind_normal, out_behind, out_before}
use Rattle.sf_optimise.proofs.sequence.in_loop.Goals as goal

pub in_sequence-requires-clause-first : goal.in_sequence-requires-clause-first
in_sequence-requires-clause-first c =
    let p = c.args.plan.now in
    loop_normal p c.in-Some.before c.in_ok-inner.inner (before_plan p c.args.part c.in-Some.before c.in-Some.behind c.requires.part c.in-Some.ensures) c.in_ok-inner.ensures.ok

pub in_sequence-requires-clause-second : goal.in_sequence-requires-clause-second
in_sequence-requires-clause-second c =
    let p = c.args.plan.now in
    let behind = behind_normal p c.args.part c.in-Some.before c.in-Some.behind c.requires.part c.in-Some.ensures in
    normal_still c.headed.ensures.grows (side_normal c.in-Some.behind c.in-Some-on_first.out c.in-Some-on_first.ensures.0 c.in-Some-on_first.ensures.1 behind)

pub returns-in-Some-on_first-clause-ok : goal.returns-in-Some-on_first-clause-ok
returns-in-Some-on_first-clause-ok c =
    let p = c.args.plan.now in
    ok_then c.in_sequence.result
    (λ a h. out_behind p c.args.part c.in-Some.before c.in-Some.behind c.requires.part c.in-Some.ensures c.headed.new.plan c.in_sequence.new.plan c.headed.ensures.grows (plan_expression_at p c.args.value)
    c.in-Some-on_first.out c.in_ok-inner.inner a c.in-Some-on_first.ensures c.in_ok-inner.ensures.ok h)
    c.in_sequence.ensures.ok

pub in_sequence-requires-then-moves_out-clause-second : goal.in_sequence-requires-then-moves_out-clause-second
in_sequence-requires-then-moves_out-clause-second c =
    let p = c.args.plan.now in
    loop_normal p c.in-Some.behind c.in_ok-inner-2.inner (behind_plan p c.args.part c.in-Some.before c.in-Some.behind c.requires.part c.in-Some.ensures) c.in_ok-inner-2.ensures.ok

pub in_sequence-requires-then-moves_out-clause-first : goal.in_sequence-requires-then-moves_out-clause-first
in_sequence-requires-then-moves_out-clause-first c =
    let p = c.args.plan.now in
    let before = before_normal p c.args.part c.in-Some.before c.in-Some.behind c.requires.part c.in-Some.ensures in
    normal_still c.headed-then-moves_out.ensures.grows (side_normal c.in-Some.before c.in-Some-on_first-2.out c.in-Some-on_first-2.ensures.0 c.in-Some-on_first-2.ensures.1 before)

pub returns-then-moves_out-clause-ok : goal.returns-then-moves_out-clause-ok
returns-then-moves_out-clause-ok c =
    let p = c.args.plan.now in
    ok_then c.in_sequence-then-moves_out.result
    (λ a h. out_before p c.args.part c.in-Some.before c.in-Some.behind c.requires.part c.in-Some.ensures c.headed-then-moves_out.new.plan c.in_sequence-then-moves_out.new.plan c.headed-then-moves_out.ensures.grows (plan_expression_at p c.args.value)
    c.in-Some-on_first-2.out c.in_ok-inner-2.inner a c.in-Some-on_first-2.ensures (c.moves_out.ensures c.if-moves_out.true) c.in_ok-inner-2.ensures.ok h)
    c.in_sequence-then-moves_out.ensures.ok

pub returns-clause-ok : goal.returns-clause-ok
returns-clause-ok c = ok_then c.headed-2.result (λ a h. loop_held c.requires.part h) c.headed-2.ensures.ok
