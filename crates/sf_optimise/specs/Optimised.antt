-- What an optimised plan is of a network.
use Rattle.std.specs.Prelude.{◌<◌, Bool, true, false, List, length, All, slice_index_or}
use Rattle.sf_func.specs.Registries.{AnswersByName}
use Rattle.sf_term.specs.declared.node.TermId.{TermId}
use Rattle.sf_term.specs.declared.node.Node.{Node}
use Rattle.sf_term.specs.declared.node.Node.TheVariants as terms
use Rattle.sf_term.specs.declared.program.Program.{Program}
use Rattle.sf_term.specs.Trees.{Term, Template}
use Rattle.sf_term.specs.Arena.{tree, term_number}
use Rattle.sf_mean.specs.Networks.{network_of}
use Rattle.sf_check.specs.declared.checked.Checked.{Checked}
use Rattle.sf_check.specs.Accepting.{accepted_program, checked_main}
use Rattle.sf_law.specs.declared.node.PlanId.{PlanId}
use Rattle.sf_law.specs.declared.plan.Plan.{Plan}
use Rattle.sf_law.specs.Arena.{plan_number, node_count, plan_tree, plan_main, plan_templates, network_of_plan}
use Rattle.sf_rewrite.specs.Plans.{Plans, PlansNetwork}
use Rattle.sf_rewrite.specs.Normal.{IsPlan}

-- Under an id stands a plan of a term, in normal form.
pub record HoldsPlan (t : Term) (q : Plan) (a : PlanId) : Type 0 where
  pub held : plan_number a < node_count q
  pub normal : IsPlan (plan_tree q a)
  pub plan : Plans t (plan_tree q a)

-- the id at the number of a term
abbrev pub id_of_term : List PlanId → TermId → PlanId
id_of_term ids t = slice_index_or ids (term_number t) (record { 0 = 0 })

-- under ids in the order of the terms of a program, as far as there are ids, stand their plans
abbrev pub HoldsPlans : Program → Plan → List PlanId → Type 0
HoldsPlans p q ids = (t : TermId) → term_number t < length ids → HoldsPlan (tree p t) q (id_of_term ids t)

-- nodes that keep their form: no law makes others of them
abbrev pub keeps_form : Node → Bool
keeps_form (terms.Primitive q) = true
keeps_form (terms.Named w k s) = true
keeps_form (terms.Call k a) = true
keeps_form (terms.Joined j a b) = false
keeps_form (terms.Sided d a) = false
keeps_form (terms.Headed h e a) = false
keeps_form (terms.Transformed f a) = true
keeps_form (terms.Switching n) = true
keeps_form (terms.Continuation n) = true
keeps_form (terms.Gathered c) = true
keeps_form (terms.Releasing n) = true
keeps_form (terms.Editing n) = true

-- The plan of an accepted network that laws make of it, whatever its stored functions answer: `main` and each template stand for
-- plans of their terms, in normal form.
pub record IsOptimisedPlan (c : Checked) (p : Plan) : Type 0 where
  pub network : (f : AnswersByName) → PlansNetwork (network_of f (accepted_program c)) (network_of_plan f p)
  pub main : Plans (checked_main c).body (plan_tree p (plan_main p))
  pub normal_main : IsPlan (plan_tree p (plan_main p))
  pub normal_templates : All (λ (t : Template). IsPlan t.body) (plan_templates p)
