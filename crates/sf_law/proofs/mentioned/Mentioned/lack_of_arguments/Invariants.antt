use Rattle.std.proofs.Common.{Bool, IsTrue}
use Rattle.sf_value.specs.Values.{Name}
use Rattle.sf_law.specs.Arena.{plan_expressions}
use Rattle.sf_law.specs.Mentioned.{is_mentioned}
use Rattle.sf_law.specs.Asking.{arguments_asked}
use Rattle.sf_law.proofs.mentioned.Mentioned.lack_of_arguments.Given as goal

abbrev pub invariant-loop-parameter : goal.invariant-loop-parameter
invariant-loop-parameter l = record {
  enough : IsTrue (arguments_asked (plan_expressions l.plan) (is_mentioned (plan_expressions l.plan) l.self) l.parameter-iterator.a.rest.now l.parameter-iterator.b.rest.now) → IsTrue (arguments_asked (plan_expressions l.plan) (is_mentioned (plan_expressions l.plan) l.self) l.parameters l.arguments);
  left : (asks : Name → Bool) → IsTrue (arguments_asked (plan_expressions l.plan) asks l.parameters l.arguments) → IsTrue (arguments_asked (plan_expressions l.plan) asks l.parameter-iterator.a.rest.now l.parameter-iterator.b.rest.now);
}
