use Rattle.std.proofs.Common.{sym, subst}
use Rattle.sf_term.specs.declared.form.Join.TheVariants.{InSequence}
use Rattle.sf_law.specs.declared.node.PlanId.{PlanId}
use Rattle.sf_law.specs.declared.node.PlanNode.TheVariants.{Primitive as NPrimitive}
use Rattle.sf_law.specs.Arena.{BuildsPlan, plan_tree}
use Rattle.sf_state.specs.Standing.{AreJoined}
use Rattle.sf_step.specs.Around.{plan_around}
use Rattle.sf_step.proofs.leaves.first_two.Goals as goal

pub returns-in-Some-short : goal.returns-in-Some-short
returns-in-Some-short g c = λ r u B C J.
    let p = plan_around c.args.around.now in
    let same = sym c.in-Some-short.ensures in
    c.first_mapped.ensures c.args.before.now r u c.in-Some.ensures.0 (subst (λ (i : PlanId). BuildsPlan p (NPrimitive c.args.before.now) (plan_tree p i)) same B) C
    (subst (λ (i : PlanId). AreJoined InSequence (plan_tree p i) (plan_tree p r) u) same J)
