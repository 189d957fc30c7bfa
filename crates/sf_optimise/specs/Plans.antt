-- What a plain plan is of a network.
use Rattle.std.specs.Prelude.{◌≡◌}
use Rattle.sf_func.specs.Registries.{AnswersByName}
use Rattle.sf_mean.specs.Networks.{network_of}
use Rattle.sf_check.specs.declared.checked.Checked.{Checked}
use Rattle.sf_check.specs.Accepting.{accepted_program, checked_main}
use Rattle.sf_law.specs.declared.plan.Plan.{Plan}
use Rattle.sf_law.specs.Arena.{plan_tree, plan_main, network_of_plan}

-- The plan of an accepted network that is the network itself, whatever its stored functions answer.
pub record IsPlainPlan (c : Checked) (p : Plan) : Type 0 where
  pub network : (f : AnswersByName) → network_of_plan f p ≡ network_of f (accepted_program c)
  pub main : plan_tree p (plan_main p) ≡ (checked_main c).body
