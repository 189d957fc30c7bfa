use Rattle.std.proofs.Common.{subst, arith}
use Rattle.sf_law.specs.Asking.{IsLack}
use Rattle.sf_law.specs.Arena.{plan_expressions, plan_headers, plan_node_at, IsEnough}
use Rattle.sf_law.proofs.Enough.{any_asked, none_only, next_only}
use Rattle.sf_law.proofs.asked.asked_names.Goals as goal

pub loop-init : goal.loop-init
loop-init c = record {
  only = none_only c.args.plan.now c.nothing-asked.result (c.nothing-asked.ensures (plan_expressions c.args.plan.now));
  some = λ h. absurd (omega (arith, h));
}

pub loop-preserved : goal.loop-preserved
loop-preserved c =
    let p = c.args.plan.now in
    let x = plan_expressions p in
    let lack = subst (λ o. IsLack x (IsEnough p) c.loop.asked o) c.in-Some.is c.lack.ensures in
    let added = c.in_ok-add-in-Some.ensures.only in
    let next = next_only p c.loop.asked c.add.new.self c.in-Some.name c.loop.invariant.only lack added in
    record { only = next.0; some = λ h. next.1 }

pub returns-in-None : goal.returns-in-None
returns-in-None c =
    let p = c.args.plan.now in
    record {
      enough = subst (λ o. IsLack (plan_expressions p) (IsEnough p) c.loop.asked o) c.in-None.is c.lack.ensures;
      only = c.loop.invariant.only;
    }

pub returns : goal.returns
returns c =
    let p = c.args.plan.now in
    record {
      enough = λ a. any_asked (plan_expressions p) (plan_headers p) (plan_node_at p a);
      only = c.loop.invariant.some (omega (arith, c.loop-test.false));
    }
