-- Code as trees.
use Rattle.sf_value.specs.Values.{Name, Data}
use Rattle.sf_operator.specs.declared.operator.Operator.{Operator}
use Rattle.sf_operator.specs.declared.operator.Unary.{Unary}
use Rattle.sf_operator.specs.declared.operator.Mapping.{Mapping}
use Rattle.sf_operator.specs.declared.operator.Folding.{Folding}
use Rattle.sf_code.specs.Places.{Place}

-- Code: an expression, of which each name is a place or a value. The code of a function stands last, and has one frame more: its argument.
pub data Code : Type 0 where
  place : Place → Code
  constant : Data → Code
  paired : Code → Code → Code
  applied : Unary → Code → Code
  operation : Code → Operator → Code → Code
  conditional : Code → Code → Code → Code
  mapped : Code → Mapping → Code → Code
  folded : Code → Folding → Code → Code → Code
  called : Name → Code → Code
