use Rattle.sf_expr.specs.Arena.{function_at}
use Rattle.sf_law.specs.Arena.{plan_tree, plan_expressions}
use Rattle.sf_begin.specs.Contexts.{context_machine}
use Rattle.sf_begin.proofs.Begins.{transformed_at_first, transformed_fails, open_wrap_fails}
use Rattle.sf_begin.proofs.opening.transformed.Goals as goal

pub returns-in-Ok : goal.returns-in-Ok
returns-in-Ok g c = λ i e C N.
    let μ = context_machine g.R.Holds.answers c.args.context.now in
    c.wrapped.ensures μ _ c.args.input.now e N (transformed_at_first μ (function_at (plan_expressions μ.plan) i) (plan_tree μ.plan c.args.part) c.args.names.now c.args.input.now e N c.in-Ok.first (c.in-Ok.ensures _ C))

pub returns-in-Err : goal.returns-in-Err
returns-in-Err g c = λ i e C N.
    let μ = context_machine g.R.Holds.answers c.args.context.now in
    rw c.fault_of.ensures (open_wrap_fails μ _ (plan_tree μ.plan c.args.part) c.args.input.now e _ (transformed_fails μ (function_at (plan_expressions μ.plan) i) (plan_tree μ.plan c.args.part) c.args.names.now c.args.input.now e N c.in-Err.fault (c.in-Err.ensures _ C)))
