-- Two parts in sequence, as they stand in a plan.
use Rattle.std.proofs.Common.{◌≡◌, [], ◌∷◌, Option, Some, None}
use Rattle.std.specs.Prelude.{IfSome, Vec}
use Rattle.std.specs.declared.alloc.Global.{Global}
use Rattle.sf_term.specs.Trees.{Term}
use Rattle.sf_term.specs.declared.form.Join.{Join}
use Rattle.sf_term.specs.declared.form.Join.TheVariants.{InSequence}
use Rattle.sf_law.specs.declared.plan.Plan.{Plan}
use Rattle.sf_law.specs.declared.node.PlanId.{PlanId}
use Rattle.sf_law.specs.declared.node.PlanNode.TheVariants.{Joined as NJoined, Pipeline as NPipeline}
use Rattle.sf_law.specs.Arena.{BuildsPlan, plan_tree}
use Rattle.sf_state.specs.Standing.{AreJoined}
use Rattle.sf_state.specs.Machine.{machine}
use Rattle.sf_begin.proofs.Begins.{parts_joined, two_joined}

-- the parts of a join
pub parts_of_join : (p : Plan) (a b : PlanId) (t : Term) → BuildsPlan p (NJoined InSequence a b) t → AreJoined InSequence (plan_tree p a) (plan_tree p b) t
parts_of_join p a b t B = parts_joined (machine (λ n d. None) p) InSequence a b t B

-- those of a pipeline of two stages
pub parts_of_pipeline : (p : Plan) (v : Vec PlanId Global) (t : Term) (r : Option (PlanId × PlanId)) → IfSome r (λ s. v.items ≡ s.0 ∷ s.1 ∷ []) → BuildsPlan p (NPipeline v) t
    → IfSome r (λ parts. AreJoined InSequence (plan_tree p parts.0) (plan_tree p parts.1) t)
parts_of_pipeline p v t (Some s) h B = two_joined (machine (λ n d. None) p) s.0 s.1 v t h B
parts_of_pipeline p v t None h B = h
