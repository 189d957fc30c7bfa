-- `arr`, and primitives behind it.
use Rattle.std.specs.Prelude.{◌≡◌, Some, None}
use Rattle.std.specs.declared.alloc.Global.{Global}
use Rattle.std.specs.declared.rc.Rc.{Rc}
use Rattle.sf_code.specs.declared.open.OpenCode.{OpenCode}
use Rattle.sf_term.specs.Trees.{Term}
use Rattle.sf_term.specs.declared.form.Join.TheVariants.{InSequence}
use Rattle.sf_law.specs.declared.plan.Plan.{Plan}
use Rattle.sf_law.specs.declared.node.PlanId.{PlanId}
use Rattle.sf_law.specs.declared.node.PlanPrimitive.{PlanPrimitive}
use Rattle.sf_law.specs.declared.node.PlanNode.TheVariants.{Primitive}
use Rattle.sf_law.specs.Arena.{BuildsPlan, plan_tree, plan_node_at, full_id, arrow_code, node_arrow}
use Rattle.sf_state.specs.Standing.{AreJoined}
use Rattle.sf_step.specs.declared.leaves.BehindArrow as declared

-- A term is a primitive behind an `arr` of the plan, whose function has no names around it, with its short id and its code.
pub record IsBehindArrow (p : Plan) (t : Term) (b : declared.BehindArrow) : Type 0 where
  pub bare : b.code.now.value.around ≡ None
  pub stands : node_arrow (plan_node_at p (full_id b.arrow)) ≡ Some b.code.now
  pub before : PlanPrimitive
  pub after : PlanId
  pub coded : arrow_code before ≡ Some b.code.now
  pub first : BuildsPlan p (Primitive before) (plan_tree p (full_id b.arrow))
  pub second : BuildsPlan p (Primitive b.primitive.now) (plan_tree p after)
  pub joined : AreJoined InSequence (plan_tree p (full_id b.arrow)) (plan_tree p after) t

-- A term is `arr` of a function without names around it, of this code.
pub record IsBareArrow (p : Plan) (t : Term) (code : Rc OpenCode Global) : Type 0 where
  pub bare : code.value.around ≡ None
  pub primitive : PlanPrimitive
  pub coded : arrow_code primitive ≡ Some code
  pub built : BuildsPlan p (Primitive primitive) t
