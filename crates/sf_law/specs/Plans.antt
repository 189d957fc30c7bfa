-- What a plan runs.
use Rattle.std.specs.Prelude.{◌≡◌}
use Rattle.sf_func.specs.Registries.{AnswersByName}
use Rattle.sf_term.specs.declared.node.TermId.{TermId}
use Rattle.sf_term.specs.declared.program.Program.{Program}
use Rattle.sf_term.specs.Arena.{tree}
use Rattle.sf_mean.specs.Networks.{network_of}
use Rattle.sf_law.specs.declared.plan.Plan.{Plan}
use Rattle.sf_law.specs.Arena.{plan_tree, plan_main, network_of_plan}

-- The plan that is a program itself, of which a term is run, whatever its stored functions answer.
pub record IsProgramPlan (q : Program) (t : TermId) (p : Plan) : Type 0 where
  pub network : (f : AnswersByName) → network_of_plan f p ≡ network_of f q
  pub main : plan_tree p (plan_main p) ≡ tree q t
