use Rattle.std.proofs.Common.{take}
use Rattle.std.specs.List.{AllZip}
use Rattle.sf_expr.specs.Arena.{Extends}
use Rattle.sf_law.specs.Copies.{CopiesParameter}
use Rattle.sf_law.proofs.plain.plan_template.Given as goal

abbrev pub invariant-loop-parameter : goal.invariant-loop-parameter
invariant-loop-parameter l = record {
  kept : Extends l.initial.expressions l.expressions;
  copied : AllZip (CopiesParameter l.expressions) (take l.parameter-index l.template.parameters) l.parameters.items;
}
