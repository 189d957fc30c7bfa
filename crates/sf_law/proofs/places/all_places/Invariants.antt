use Rattle.std.proofs.Common.{take}
use Rattle.sf_expr.specs.declared.exprs.Exprs.{Exprs}
use Rattle.sf_expr.specs.Numbered.{AreNumbers}
use Rattle.sf_law.specs.Places.{ArePlaces}
use Rattle.sf_law.proofs.places.all_places.Given as goal

abbrev pub invariant-loop-template : goal.invariant-loop-template
invariant-loop-template l = record {
  placed : (e : Exprs) → AreNumbers e l.numbers → ArePlaces e l.numbers (take l.template-index l.templates) l.places.items;
}
