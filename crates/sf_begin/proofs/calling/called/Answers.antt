use Rattle.std.proofs.Common.{IsTrue, map, sym, subst}
use Rattle.sf_mean.specs.Lives.{empty}
use Rattle.sf_mean.specs.Meaning.{argued}
use Rattle.sf_law.specs.Arena.{plan_asks, plan_expressions, plan_binding, plan_arguments}
use Rattle.sf_law.specs.Asking.{arguments_asked}
use Rattle.sf_law.specs.Headers.{PlanHeader}
use Rattle.sf_state.specs.Standing.{IsNames}
use Rattle.sf_begin.specs.Contexts.{context_machine}
use Rattle.sf_begin.specs.Beginning.{Makes}
use Rattle.sf_begin.proofs.calling.called.Goals as goal

pub bound_names-requires : goal.bound_names-requires
bound_names-requires g c =
    let p = c.args.context.now.plan.now in
    record {
      same = c.template-template.ensures.value;
      bound = c.template-template.ensures.bound;
      coded = c.requires.coded;
      asked = subst (λ (h : PlanHeader). IsTrue (arguments_asked (plan_expressions p) (plan_asks p) h.parameters c.args.arguments.now)) (sym c.template-template.ensures.value) c.requires.asked;
    }

pub returns : goal.returns
returns g c = λ e N.
    let μ = context_machine g.R.Holds.answers c.args.context.now in
    subst (λ (h : PlanHeader). Makes (IsNames μ) (argued μ.answers (map (plan_binding μ.plan) h.parameters) (plan_arguments μ.plan c.args.arguments.now) e empty) c.bound_names.result) c.template-template.ensures.value (c.bound_names.ensures e N)
