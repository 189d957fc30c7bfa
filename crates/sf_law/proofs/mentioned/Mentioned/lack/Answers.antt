use Rattle.std.proofs.Common.{IsTrue, sym, ◌∙◌, subst, arith}
use Rattle.sf_law.specs.declared.node.PlanId.{PlanId}
use Rattle.sf_law.specs.Mentioned.{is_mentioned}
use Rattle.sf_law.specs.Asking.{is_asked}
use Rattle.sf_law.specs.Arena.{plan_expressions, plan_headers, IsEnough}
use Rattle.sf_law.proofs.Enough.{next_enough, all_enough, lack_within, no_lack}
use Rattle.sf_law.proofs.mentioned.Mentioned.lack.Goals as goal

pub loop-number-init : goal.loop-number-init
loop-number-init c = λ a below. absurd (omega (arith, below))

pub loop-number-preserved : goal.loop-number-preserved
loop-number-preserved c =
    let p = c.args.plan.now in
    let m = c.args.self.now in
    let x = plan_expressions p in
    let hs = plan_headers p in
    let here = no_lack x m (λ asks. IsTrue (is_asked x hs asks c.node.result.now)) c.lack_of_node-lack.result (sym c.is_some.ensures ∙ c.if-is_some.false) c.lack_of_node-lack.ensures in
    next_enough p m c.loop-number.number c.loop-number.invariant (subst (λ n. IsTrue (is_asked x hs (is_mentioned x m) n)) c.node.ensures.value here)

pub returns-then-is_some : goal.returns-then-is_some
returns-then-is_some c =
    let p = c.args.plan.now in
    let x = plan_expressions p in
    let hs = plan_headers p in
    let a : PlanId = record { 0 = c.loop-number.number } in
    lack_within x c.args.self.now (λ asks. IsTrue (is_asked x hs asks c.node.result.now)) (IsEnough p) c.lack_of_node-lack.result (sym c.is_some.ensures ∙ c.if-is_some.true)
    (λ asks h. subst (λ n. IsTrue (is_asked x hs asks n)) (sym c.node.ensures.value) (h a)) c.lack_of_node-lack.ensures

pub returns : goal.returns
returns c = all_enough c.args.plan.now c.args.self.now c.loop-number.number (omega (arith, c.count-number-end.ensures, c.loop-number-test.false)) c.loop-number.invariant
