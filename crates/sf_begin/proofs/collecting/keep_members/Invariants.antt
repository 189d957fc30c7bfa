use Rattle.std.proofs.Common.{◌++◌, map}
use Rattle.sf_value.specs.Keys.{key_of, AreDifferentKeys}
use Rattle.sf_expr.specs.Expressions.{Function}
use Rattle.sf_expr.specs.Evaluation.{apply}
use Rattle.sf_law.specs.Arena.{plan_expressions}
use Rattle.sf_code.specs.Worth.{IsCodeOfFunction}
use Rattle.sf_mean.specs.Lives.{Environment, Members, scope_around}
use Rattle.sf_state.specs.Standing.{IsNames}
use Rattle.sf_begin.specs.Collecting.{HasMembers}
use Rattle.sf_begin.specs.Contexts.{context_machine, plan_in}
use Rattle.sf_begin.proofs.Collected.{Sifted}
use Rattle.sf_begin.proofs.collecting.keep_members.Given as goal

abbrev pub invariant-loop-key : goal.invariant-loop-key
invariant-loop-key g l = record {
  different : AreDifferentKeys (l.under ++ map key_of l.key-iterator.a.rest.now);
  sifted : (f : Function) (e : Environment) (ms : Members) → IsCodeOfFunction (plan_expressions (plan_in l.context)) f l.code → IsNames (context_machine g.R.Holds.answers l.context) l.names e →
      HasMembers (context_machine g.R.Holds.answers l.context) l.fn.members ms →
      Sifted (context_machine g.R.Holds.answers l.context) l.fn.members.wait (λ x. apply f x (scope_around (g.R.Holds.answers l.context.functions.now) e)) ms l.key-iterator.a.rest.now l.key-iterator.b.rest.items l.under l.kept.items;
}
