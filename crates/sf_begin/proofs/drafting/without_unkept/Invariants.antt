use Rattle.std.proofs.Common.{ℕ, ◌-◌, [], List, Option, length}
use Rattle.sf_expr.specs.Expressions.{Function}
use Rattle.sf_expr.specs.Evaluation.{apply}
use Rattle.sf_law.specs.Arena.{plan_expressions}
use Rattle.sf_code.specs.Worth.{IsCodeOfFunction}
use Rattle.sf_mean.specs.Lives.{Environment, Members, scope_around}
use Rattle.sf_state.specs.declared.state.State.{State}
use Rattle.sf_state.specs.Standing.{IsNames, Gathers}
use Rattle.sf_begin.specs.Contexts.{context_machine, plan_in}
use Rattle.sf_begin.specs.Drafting.{laid_over}
use Rattle.sf_begin.proofs.Drafts.{LeftOver}
use Rattle.sf_begin.proofs.drafting.without_unkept.Given as goal

abbrev pub invariant-loop-at : goal.invariant-loop-at
invariant-loop-at g l = record {
  left_over : (f : Function) (e : Environment) (bs : List State) (w : Option ℕ) (ms : Members) → IsCodeOfFunction (plan_expressions (plan_in l.context)) f l.code → IsNames (context_machine g.R.Holds.answers l.context) l.names e
      → Gathers (context_machine g.R.Holds.answers l.context) (laid_over bs w l.fn.made) ms [] → LeftOver (context_machine g.R.Holds.answers l.context) bs w (λ x. apply f x (scope_around (g.R.Holds.answers l.context.functions.now) e)) ms l.left l.at;
}

abbrev pub decreases-loop-at : goal.decreases-loop-at
decreases-loop-at g l = length l.left.keys - l.at
