use Rattle.std.proofs.Common.{ap, ◌∙◌}
use Rattle.sf_expr.specs.Arena.{name_at}
use Rattle.sf_law.specs.Arena.{plan_expressions}
use Rattle.sf_law.specs.Places.{last_parameter}
use Rattle.sf_state.specs.declared.env.Call.{Call}
use Rattle.sf_state.specs.Names.{given_value, given_at}
use Rattle.sf_state.proofs.Scopes.{names_called, value_called}
use Rattle.sf_state.proofs.env.Env.+value.Goals as goal

pub returns-in-Called : goal.returns-in-Called
returns-in-Called t c =
    let p = c.args.plan.now in
    let x = name_at (plan_expressions p) c.args.name in
    rw c.in-Called.is (c.value-in-Called.ensures ∙ ap (λ (k : Call). given_value (given_at (last_parameter x (names_called p k)) k.arguments.items)) c.deref-in-Called.ensures ∙ value_called p x c.in-Called.call)
