use Rattle.std.proofs.Common.{take, All}
use Rattle.std.specs.List.{AllZip}
use Rattle.sf_law.specs.Entries.{IsCodedArgument}
use Rattle.sf_law.specs.Copies.{stands_under, CopiesArgument}
use Rattle.sf_law.proofs.plain.plan_arguments.Given as goal

abbrev pub invariant-loop-argument : goal.invariant-loop-argument
invariant-loop-argument l = record {
  same : AllZip (CopiesArgument l.program (stands_under l.terms)) (take l.argument-index l.arguments) l.copies.items;
  coded : All (IsCodedArgument l.exprs) l.copies.items;
}
