use Rattle.std.proofs.Common.{length, subst, sym, ap, ◌∙◌, arith}
use Rattle.sf_reach.specs.Graphs.{IsGraphOf, marked}
use Rattle.sf_reach.proofs.Lawful.{none_anywhere}
use Rattle.sf_reach.proofs.Led.{halts_no_way}
use Rattle.sf_reach.proofs.Bridged.{before_more, found_first, found_none, none_endless}
use Rattle.sf_reach.proofs.endless.first_endless_call.Goals as goal
use Rattle.sf_reach.proofs.endless.first_endless_call.Goals.{In_ok-spot}

pub returns-in-Some : goal.returns-in-Some
returns-in-Some c =
    let i = c.loop-template.template in
    let same = c.deref-in-loop-template.ensures.value in
    let graph = subst (IsGraphOf c.args.program.now) (sym same) c.in_ok-graph.ensures.graph in
    let items = ap length c.deref-is_settled-items.ensures.value in
    let long = c.in_ok-settled.ensures.long in
    let other = ap length c.deref.ensures.value in
    let again = ap length same in
    found_first c.args.program.now c.deref-in-loop-template.result.now graph c.requires.different i c.in_ok-spot.field-0 c.in-Some.spot c.in-Some.is (omega (arith, c.loop-template-test.true)) c.loop-template.invariant c.in_ok-spot.ensures

pub loop-template-preserved-then-is_settled : goal.loop-template-preserved-then-is_settled
loop-template-preserved-then-is_settled c =
    let i = c.loop-template.template in
    let g = c.deref.result.now in
    let graph = subst (IsGraphOf c.args.program.now) (sym c.deref.ensures.value) c.in_ok-graph.ensures.graph in
    let is = ap (λ bs. marked bs i) (sym c.deref-is_settled-items.ensures.value) ∙ c.if-is_settled.true in
    before_more c.args.program.now i c.loop-template.invariant (none_endless c.args.program.now g graph c.requires.different i (halts_no_way g i (c.in_ok-settled.ensures.settled i is)))

pub loop-template-preserved : goal.loop-template-preserved
loop-template-preserved c =
    let i = c.loop-template.template in
    let graph = subst (IsGraphOf c.args.program.now) (sym c.deref-in-loop-template.ensures.value) c.in_ok-graph.ensures.graph in
    before_more c.args.program.now i c.loop-template.invariant (found_none c.args.program.now c.deref-in-loop-template.result.now graph c.requires.different i c.in_ok-spot.field-0 c.in_default.is c.in_ok-spot.ensures)

pub returns : goal.returns
returns c =
    let p = c.args.program.now in
    let items = ap length c.deref-is_settled-items.ensures.value in
    let long = c.in_ok-settled.ensures.long in
    let other = ap length c.deref.ensures.value in
    let headers = c.in_ok-graph.ensures.graph.long in
    none_anywhere p (λ i h. c.loop-template.invariant i (omega (arith, c.loop-template-test.false)))
