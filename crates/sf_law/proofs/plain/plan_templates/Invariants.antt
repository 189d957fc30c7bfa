use Rattle.std.proofs.Common.{take}
use Rattle.std.specs.List.{AllZip}
use Rattle.sf_expr.specs.Arena.{Extends}
use Rattle.sf_law.specs.Copies.{CopiesTemplate}
use Rattle.sf_law.proofs.plain.plan_templates.Given as goal

abbrev pub invariant-loop-template : goal.invariant-loop-template
invariant-loop-template l = record {
  kept : Extends l.initial.expressions l.expressions;
  copied : AllZip (CopiesTemplate l.expressions) (take l.template-index l.templates) l.copies.items;
}
