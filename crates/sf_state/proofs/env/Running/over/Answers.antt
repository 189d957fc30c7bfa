use Rattle.sf_expr.specs.Arena.{name_at}
use Rattle.sf_law.specs.Arena.{plan_expressions}
use Rattle.sf_state.specs.declared.env.Running.{Running}
use Rattle.sf_state.proofs.Fewer.{process_made}
use Rattle.sf_state.proofs.env.Running.over.Goals as goal

pub returns : goal.returns
returns c = λ μ m l e P h H k.
    let r : Running = record { name = c.args.self.now.name; handed = c.in_ok-handed.handed; around = c.in-Some.around } in
    process_made μ r c.in_ok-running.running.value c.in_ok-running.ensures.ok h (c.in_ok-handed.ensures μ (name_at (plan_expressions μ.plan) c.args.self.now.name) P H) (rw c.in-Some.is at k)
