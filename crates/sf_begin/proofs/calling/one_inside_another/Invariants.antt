use Rattle.std.specs.Prelude.{All, IsTrue}
use Rattle.sf_mean.specs.Lives.{Environment}
use Rattle.sf_law.specs.Arena.{plan_expressions, plan_asks}
use Rattle.sf_law.specs.Entries.{BindsName, IsCodedArgument}
use Rattle.sf_law.specs.Asking.{arguments_asked}
use Rattle.sf_state.specs.Standing.{IsNames}
use Rattle.sf_begin.specs.Contexts.{context_machine, plan_in}
use Rattle.sf_begin.proofs.Arguments.{Binds}
use Rattle.sf_begin.proofs.calling.one_inside_another.Given as goal

abbrev pub invariant-loop-parameter : goal.invariant-loop-parameter
invariant-loop-parameter g l = record {
  named : All (BindsName (plan_expressions (plan_in l.context))) l.parameter-iterator.a.rest.now;
  coded : All (IsCodedArgument (plan_expressions (plan_in l.context))) l.parameter-iterator.b.rest.now;
  asked : IsTrue (arguments_asked (plan_expressions (plan_in l.context)) (plan_asks (plan_in l.context)) l.parameter-iterator.a.rest.now l.parameter-iterator.b.rest.now);
  binds : (e : Environment) → IsNames (context_machine g.R.Holds.answers l.context) l.names e →
      Binds (context_machine g.R.Holds.answers l.context) l.parameters l.arguments e l.parameter-iterator.a.rest.now l.parameter-iterator.b.rest.now l.bound;
}
