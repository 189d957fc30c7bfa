use Rattle.std.proofs.Common.{take}
use Rattle.std.specs.List.{AllZip}
use Rattle.sf_expr.specs.Numbered.{IsNumber, ExtendsNumbers}
use Rattle.sf_expr.proofs.exprs.numbers.numbers_of.Given as goal

abbrev pub invariant-loop-name : goal.invariant-loop-name
invariant-loop-name l = record {
  kept : ExtendsNumbers l.initial.texts.keys l.texts.keys;
  given : AllZip (IsNumber l.texts.keys) (take l.name-index l.names) l.numbers.items;
}
