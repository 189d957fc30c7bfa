-- Expressions as trees.
use Rattle.std.specs.Prelude.{ℕ, suc, ◌+◌, max, ℤ, Bool, List, [], ◌∷◌, ◌++◌}
use Rattle.sf_value.specs.Values.{Name, Kind}
use Rattle.sf_operator.specs.declared.operator.Operator.{Operator}
use Rattle.sf_operator.specs.declared.operator.Unary.{Unary}
use Rattle.sf_operator.specs.declared.operator.Mapping.{Mapping}
use Rattle.sf_operator.specs.declared.operator.Folding.{Folding}

-- A pattern binds nothing, a name, or the two parts of a pair.
pub data Pattern : Type 0 where
  unnamed : Pattern
  named : Name → Pattern
  both : Pattern → Pattern → Pattern

-- Values that stand in the text. A text is its bytes; no event has the type of the payload that it hasn't.
pub data Literal : Type 0 where
  unit_literal : Literal
  truth_literal : Bool → Literal
  int_literal : ℤ → Literal
  text_literal : List ℕ → Literal
  none_literal : Kind → Literal

-- expressions: names, literals, pairs, operators on their operands, one of two by a truth, forms with a function, whose pattern and
-- expression stand last, and calls of stored functions by their names
pub data Expression : Type 0 where
  variable : Name → Expression
  literal : Literal → Expression
  paired : Expression → Expression → Expression
  applied : Unary → Expression → Expression
  operation : Expression → Operator → Expression → Expression
  conditional : Expression → Expression → Expression → Expression
  mapped : Expression → Mapping → Pattern → Expression → Expression
  folded : Expression → Folding → Expression → Pattern → Expression → Expression
  called : Name → Expression → Expression

-- A function `p => e`.
pub data Function : Type 0 where
  function : Pattern → Expression → Function

-- how many patterns stand one inside another
abbrev pub pattern_depth : Pattern → ℕ
pattern_depth unnamed = 1
pattern_depth (named x) = 1
pattern_depth (both p q) = suc (max (pattern_depth p) (pattern_depth q))

-- how many expressions or patterns stand one inside another
abbrev pub depth : Expression → ℕ
depth (variable x) = 1
depth (literal l) = 1
depth (paired i j) = suc (max (depth i) (depth j))
depth (applied o i) = suc (depth i)
depth (operation i o j) = suc (max (depth i) (depth j))
depth (conditional i j k) = suc (max (depth i) (max (depth j) (depth k)))
depth (mapped i m p j) = suc (max (depth i) (max (pattern_depth p) (depth j)))
depth (folded i o j p k) = suc (max (depth i) (max (depth j) (max (pattern_depth p) (depth k))))
depth (called g i) = suc (depth i)

-- how deep the pattern and the expression of a function are
abbrev pub function_depth : Function → ℕ
function_depth (function p i) = max (pattern_depth p) (depth i)

-- how many expressions an expression is made of
abbrev pub size : Expression → ℕ
size (variable x) = 1
size (literal l) = 1
size (paired i j) = suc (size i + size j)
size (applied o i) = suc (size i)
size (operation i o j) = suc (size i + size j)
size (conditional i j k) = suc (size i + (size j + size k))
size (mapped i m p j) = suc (size i + size j)
size (folded i o j p k) = suc (size i + (size j + size k))
size (called g i) = suc (size i)

-- how many expressions stand in a function
abbrev pub function_size : Function → ℕ
function_size (function p i) = size i

-- the names of a pattern, from left to right
abbrev pub names_of_pattern : Pattern → List Name
names_of_pattern unnamed = []
names_of_pattern (named x) = x ∷ []
names_of_pattern (both p q) = names_of_pattern p ++ names_of_pattern q
