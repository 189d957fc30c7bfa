use Rattle.std.proofs.Common.{take}
use Rattle.std.specs.List.{AllZip}
use Rattle.sf_expr.specs.Patterns.{pattern_of}
use Rattle.sf_expr.specs.Numbered.{ExtendsNumbers, IsNumbered}
use Rattle.sf_expr.proofs.exprs.numbers.numbered_each.Given as goal

abbrev pub invariant-loop-pattern : goal.invariant-loop-pattern
invariant-loop-pattern l = record {
  kept : ExtendsNumbers l.initial.texts.keys l.texts.keys;
  given : AllZip (λ p numbers. IsNumbered l.texts.keys (pattern_of p) numbers) (take l.pattern-index l.patterns) l.each.items;
}
