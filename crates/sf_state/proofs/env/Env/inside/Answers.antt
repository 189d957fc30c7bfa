use Rattle.std.proofs.Common.{sym, subst}
use Rattle.sf_expr.specs.Expressions.{Pattern}
use Rattle.sf_mean.specs.Lives.{bind}
use Rattle.sf_state.specs.Machine.{machine}
use Rattle.sf_state.specs.Standing.{IsNames}
use Rattle.sf_state.specs.Names.{bound_value}
use Rattle.sf_state.specs.declared.env.Binding.{Binding}
use Rattle.sf_state.proofs.Scopes.{names_bound_inside}
use Rattle.sf_state.proofs.env.Env.inside.Goals as goal

pub returns : goal.returns
returns c = λ φ e N.
    let μ = machine φ c.args.plan.now in
    let b : Binding = record { pattern = c.args.pattern; value = c.in_ok-value.value; around = c.in_ok-around.around } in
    names_bound_inside μ b c.in_ok-binding.binding.value c.in_ok-binding.ensures.ok (bound_value c.args.value) c.in_ok-value.ensures e (c.in_ok-around.ensures μ e N)

-- inside a pattern that binds nothing stand the names around it
pub returns-then-binds_nothing : goal.returns-then-binds_nothing
returns-then-binds_nothing c = λ φ e N.
    let μ = machine φ c.args.plan.now in
    let own = c.binds_nothing.ensures c.if-binds_nothing.true _ _ _ (c.numbered.ensures (record { 0 = 0 })) in
    subst (λ (q : Pattern). IsNames μ c.in_ok-around.around (bind q (bound_value c.args.value) e)) (sym own) (c.in_ok-around.ensures μ e N)
